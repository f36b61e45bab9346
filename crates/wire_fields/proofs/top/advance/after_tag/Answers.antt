use Rattle.std.proofs.Common.{◌/◌, refl, arith}
use Rattle.wire_fields.specs.TopReading.{IsBegun, LacksSome}
use Rattle.wire_fields.proofs.Parts.{tag_unsound, tagged_nothing, nothing_begun}
use Rattle.wire_fields.proofs.top.advance.after_tag.Goals as goal

pub returns-then-tag-clause-turns : goal.returns-then-tag-clause-turns
returns-then-tag-clause-turns c = λ bytes v. (tag_unsound bytes c.args.tag v (λ s. omega (arith, s.bits, s.number)), λ e. absurd cc)

pub returns-in-0-clause-turns : goal.returns-in-0-clause-turns
returns-in-0-clause-turns c = λ bytes v. ((c.args.tag / 8, tagged_nothing bytes c.args.tag 0 (IsBegun (record { count = 0; value = 0 })) v (omega arith) (omega arith) (omega arith) (omega arith) nothing_begun), refl)

pub returns-in-1-clause-turns : goal.returns-in-1-clause-turns
returns-in-1-clause-turns c = λ bytes v. ((c.args.tag / 8, tagged_nothing bytes c.args.tag 1 (LacksSome 8 8) v (omega arith) (omega arith) (omega arith) (omega arith) (refl, omega arith)), refl)

pub returns-in-5-clause-turns : goal.returns-in-5-clause-turns
returns-in-5-clause-turns c = λ bytes v. ((c.args.tag / 8, tagged_nothing bytes c.args.tag 5 (LacksSome 4 4) v (omega arith) (omega arith) (omega arith) (omega arith) (refl, omega arith)), refl)

pub returns-in_default-clause-turns : goal.returns-in_default-clause-turns
returns-in_default-clause-turns c = λ bytes v. (tag_unsound bytes c.args.tag v (λ s. omega (arith, s.type)), λ e. absurd cc)
