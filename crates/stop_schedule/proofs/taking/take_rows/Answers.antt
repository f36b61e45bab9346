use Rattle.std.proofs.Common.{◌≡◌, ◌∙◌, ◌++◌, ◌∷◌, ◌+◌, [], length, length-append, refl}
use Rattle.stop_schedule.proofs.TakingLemmas.{few-rows, taken, refused}
use Rattle.stop_schedule.proofs.taking.take_rows.Goals as goal

pub loop-number-preserved : goal.loop-number-preserved
loop-number-preserved g c =
    let inv = c.loop-number.invariant in
    let start = c.args.taker.now in
    let file = g.T.TakesRows.file_of start in
    let row = c.advance.new.self.row in
    let left = c.advance.new.self.left in
    let number = c.loop-number.number in
    let is : c.loop-number.sheet.left ≡ row ∷ left = rw c.if-branch.true at c.in_ok-advance.ensures.reads in
    let counted : number + 1 ≡ length (inv.0 ++ row ∷ []) = rw (length-append inv.0 (row ∷ []), ← inv.1.number) refl in
    let fault_is = inv.1.same_fault in
    let file_is = inv.1.same_file in
    let takes = rw (fault_is, file_is) at (c.in_default.ensures.takes start inv.0) in (
      inv.0 ++ row ∷ [],
      record {
        number = counted;
        few = few-rows (number + 1) (g.T.TakesRows.file_of c.loop-number.taker) c.in_default.ensures.few;
        limit = rw file_is at c.in_default.ensures.few;
        keeps = c.in_default.ensures.keeps;
        same_given = c.in_default.ensures.same_given ∙ inv.1.same_given;
        same_fault = c.in_default.ensures.same_fault ∙ inv.1.same_fault;
        same_file = c.in_default.ensures.same_file ∙ inv.1.same_file;
        so_far = λ holds. taken g.T.TakesRows.Holds file (g.T.TakesRows.fault start) start c.loop-number.taker
            c.take_row.new.taker c.args.sheet.now.left inv.0
            c.loop-number.sheet.left left row number (inv.1.so_far holds) is inv.1.number takes;
      },
    )

pub returns-in-Err-clause-takes : goal.returns-in-Err-clause-takes
returns-in-Err-clause-takes g c = λ holds.
    let inv = c.loop-number.invariant in
    let start = c.args.taker.now in
    let file = g.T.TakesRows.file_of start in
    let row = c.advance.new.self.row in
    let left = c.advance.new.self.left in
    let number = c.loop-number.number in
    let is : c.loop-number.sheet.left ≡ row ∷ left = rw c.if-branch.true at c.in_ok-advance.ensures.reads in
    let fault_is = inv.1.same_fault in
    let file_is = inv.1.same_file in
    let takes = rw (fault_is, file_is) at (c.in-Err.ensures.takes start inv.0) in
    refused g.T.TakesRows.Holds file (g.T.TakesRows.fault start) start c.loop-number.taker c.take_row.new.taker
    c.args.sheet.now.left inv.0
    c.loop-number.sheet.left left row number c.in-Err.fault (inv.1.so_far holds) is inv.1.number takes
