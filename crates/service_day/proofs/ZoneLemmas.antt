-- Whether a footer's rule agrees with a table follows from what the rule says.
use Rattle.std.proofs.Common.{◌≡◌, ◌-◌, ◌∙◌, ℕ, ℤ, List, Bool, true, false, Option, Some, None, Ok, inl, inr, length, map, get_or, refl, sym, ap, if◌then◌else◌, ◌&&◌, ◌||◌, int_lt, ◌+ℤ◌, ◌-ℤ◌, ◌*ℤ◌, IfSome}
use Rattle.std.specs.Option.{option_map}
use Rattle.jiff_core.specs.Timestamp.{nanos_of_seconds}
use Rattle.jiff_core.specs.declared.Offset.{Offset}
use Rattle.jiff_tz.specs.Abbreviation.{abbreviation_text}
use Rattle.jiff_tz.specs.PosixRule.{clamp_to, dst_at_by, dst_info, first_nanosecond, in_window, info_at, int_same, last_nanosecond, match_some, nanos_per_day, rule_day, rule_nanos, saturating_add, std_info, utc_window}
use Rattle.jiff_tz.specs.PosixText.{DstText, TzText, day_time_view, dst_view, tz_view}
use Rattle.jiff_tz.specs.Tzif.{HasBadRule, RuleAgrees, tzif_view}
use Rattle.jiff_tz.specs.TzifAgree.{FooterAgrees, RowAgrees}
use Rattle.jiff_tz.specs.TzifReader.{Parsed, TzifText, read_tzif}
use Rattle.jiff_tz.specs.TzifText.{TransitionText, no_row, transition_text}
use Rattle.jiff_tz.specs.Year.{year_of_nanos}
use Rattle.jiff_tz.specs.declared.info.Dst as Flag
use Rattle.jiff_tz.specs.declared.info.OffsetInfo.{OffsetInfo}
use Rattle.jiff_tz.specs.declared.posix.Day.{Day}
use Rattle.jiff_tz.specs.declared.posix.DayTime.{DayTime}
use Rattle.jiff_tz.specs.declared.posix.Dst.{Dst}
use Rattle.jiff_tz.specs.declared.posix.TimeZone.{TimeZone}
use Rattle.jiff_tz.specs.declared.tzif.Tzif.{Tzif}
use Rattle.service_day.specs.Zones.{IsBadTable, IsTableZone}
use Rattle.service_day.specs.declared.zones.Rules.{Rules}
use Rattle.service_day.specs.declared.zones.Rules.TheVariants.{Rule, Table}

-- when a rule's moment falls in a year, by what the rule says
moment_in : ℤ → Day × ℤ → ℤ → ℤ
moment_in y d seconds = match_some (rule_day y d.0) (last_nanosecond y) (λ day.
    clamp_to (first_nanosecond y) (last_nanosecond y)
    (day *ℤ nanos_per_day +ℤ nanos_of_seconds (d.1 -ℤ seconds)))

moment_in-is : (y : ℤ) (d : DayTime) (seconds : ℤ) → rule_nanos y d seconds ≡ moment_in y (day_time_view d) seconds
unfolding rule_nanos moment_in
moment_in-is y d seconds = refl

-- a year's window by the moments at which it starts and ends
window_by : ℤ → ℤ → ℤ → ℤ → ℤ × ℤ
window_by y start end std =
    if int_same start (first_nanosecond y)
    && (int_lt (saturating_add end (nanos_of_seconds std)) (first_nanosecond y) || int_lt (last_nanosecond y) (saturating_add end (nanos_of_seconds std)))
    then (start, last_nanosecond y)
    else (start, end)

window_by-is : (d : Dst) (y : ℤ) (std : Offset) →
    utc_window d y std ≡ window_by y (rule_nanos y d.rule.start std.seconds) (rule_nanos y d.rule.end d.offset.seconds) std.seconds
unfolding utc_window window_by
window_by-is d y std = refl

same_moment : (y : ℤ) (d e : DayTime) (seconds more : ℤ) → day_time_view d ≡ day_time_view e → seconds ≡ more →
    rule_nanos y d seconds ≡ rule_nanos y e more
same_moment y d e seconds more says same =
    let first : rule_nanos y d seconds ≡ moment_in y (day_time_view d) seconds = moment_in-is y d seconds in
    let second : rule_nanos y e more ≡ moment_in y (day_time_view e) more = moment_in-is y e more in
    cc

same_window : (y : ℤ) (d e : Dst) (std other : Offset) → dst_view d ≡ dst_view e → std.seconds ≡ other.seconds →
    utc_window d y std ≡ utc_window e y other
same_window y d e std other says same =
    let start : rule_nanos y d.rule.start std.seconds ≡ rule_nanos y e.rule.start other.seconds =
    same_moment y d.rule.start e.rule.start std.seconds other.seconds (ap (λ (t : DstText). t.start) says) same in
    let end : rule_nanos y d.rule.end d.offset.seconds ≡ rule_nanos y e.rule.end e.offset.seconds =
    same_moment y d.rule.end e.rule.end d.offset.seconds e.offset.seconds (ap (λ (t : DstText). t.finish) says) (ap (λ (t : DstText). t.seconds) says) in
    let first : utc_window d y std ≡ window_by y (rule_nanos y d.rule.start std.seconds) (rule_nanos y d.rule.end d.offset.seconds) std.seconds = window_by-is d y std in
    let second : utc_window e y other ≡ window_by y (rule_nanos y e.rule.start other.seconds) (rule_nanos y e.rule.end e.offset.seconds) other.seconds = window_by-is e y other in
    cc

-- what of a zone's state stands in a table's row
record Shown : Type 0 where
  seconds : ℤ
  dst : Flag.Dst
  name : List ℕ

shown : OffsetInfo → Shown
shown info = record { seconds = info.offset.seconds; dst = info.dst; name = abbreviation_text info.abbreviation }

abbrev info_if : Bool → Dst → OffsetInfo → OffsetInfo
info_if inside d std = match_some (if inside then Some d else None) std dst_info

same_if : (inside : Bool) (d e : Dst) (std other : OffsetInfo) → dst_view d ≡ dst_view e → shown std ≡ shown other →
    shown (info_if inside d std) ≡ shown (info_if inside e other)
unfolding shown
same_if false d e std other says same = same
same_if true d e std other says same =
    let seconds : d.offset.seconds ≡ e.offset.seconds = ap (λ (t : DstText). t.seconds) says in
    let name : abbreviation_text d.abbrev ≡ abbreviation_text e.abbrev = ap (λ (t : DstText). t.name) says in
    rw (seconds, name)

same_at : (n : ℤ) (d e : Option Dst) (offset offset' : Offset) (std other : OffsetInfo) → option_map dst_view d ≡ option_map dst_view e
    → offset.seconds ≡ offset'.seconds → shown std ≡ shown other
    → shown (match_some (dst_at_by offset d n) std dst_info) ≡ shown (match_some (dst_at_by offset' e n) other dst_info)
same_at n None None offset offset' std other says seconds same = same
same_at n None (Some e) offset offset' std other says seconds same = absurd (cc)
same_at n (Some d) None offset offset' std other says seconds same = absurd (cc)
same_at n (Some d) (Some e) offset offset' std other says seconds same =
    let view : dst_view d ≡ dst_view e = cc in
    rw (same_window (year_of_nanos n) d e offset offset' view seconds)
    (same_if (in_window (utc_window e (year_of_nanos n) offset') n) d e std other view same)

same_info : (a b : TimeZone) (n : ℤ) → tz_view a ≡ tz_view b → shown (info_at a n) ≡ shown (info_at b n)
unfolding shown
same_info a b n says =
    let seconds : a.std_offset.seconds ≡ b.std_offset.seconds = ap (λ (t : TzText). t.std_seconds) says in
    let name : abbreviation_text a.std_abbrev ≡ abbreviation_text b.std_abbrev = ap (λ (t : TzText). t.std_name) says in
    let std : shown (std_info a) ≡ shown (std_info b) = rw (seconds, name) in
    same_at n a.dst b.dst a.std_offset b.std_offset (std_info a) (std_info b) (ap (λ (t : TzText). t.dst) says) seconds std

row_agrees : (a b : TimeZone) (row : TransitionText) → tz_view a ≡ tz_view b → RowAgrees a row → RowAgrees b row
unfolding shown
row_agrees a b row says agrees =
    let same = same_info a b (nanos_of_seconds row.second) says in (
      sym (ap (λ (s : Shown). s.seconds) same) ∙ agrees.0,
      sym (ap (λ (s : Shown). s.dst) same) ∙ agrees.1,
      sym (ap (λ (s : Shown). s.name) same) ∙ agrees.2,
    )

footer_agrees : (a b : TimeZone) (rows : List TransitionText) → tz_view a ≡ tz_view b → FooterAgrees rows a → FooterAgrees rows b
footer_agrees a b rows says agrees = λ some. row_agrees a b (get_or rows (length rows - 1) no_row) says (agrees some)

-- a table whose rule agrees is no reading of bytes with a rule that doesn't
agrees_with : (table : Option TimeZone) (rule : TimeZone) (rows : List TransitionText) → option_map tz_view table ≡ Some (tz_view rule)
    → IfSome table (λ tz. FooterAgrees rows tz) → FooterAgrees rows rule
agrees_with None rule rows says agrees = absurd (cc)
agrees_with (Some tz) rule rows says agrees = let view : tz_view tz ≡ tz_view rule = cc in footer_agrees tz rule rows view agrees

no_bad_rule : (read : Parsed TzifText) (table : Tzif) → read ≡ Ok (tzif_view table) → RuleAgrees table → HasBadRule read → ⊥
no_bad_rule read table good agrees bad =
    let texts : bad.text ≡ tzif_view table = cc in
    let rows : bad.text.transitions ≡ map transition_text table.transitions.items = ap (λ (t : TzifText). t.transitions) texts in
    let rule : option_map tz_view table.posix_tz ≡ Some (tz_view bad.rule) = sym (ap (λ (t : TzifText). t.rule) texts) ∙ bad.is_rule in
    bad.disagrees (rw rows (agrees_with table.posix_tz bad.rule (map transition_text table.transitions.items) rule agrees))

-- no bytes are the table of a zone and refused
pub never_both : (bytes : List ℕ) (rules : Rules) → IsTableZone bytes rules → IsBadTable bytes → ⊥
never_both bytes (Rule zone) taken bad = taken
never_both bytes (Table table) taken (inl broken) = absurd (cc (taken.0, broken.1))
never_both bytes (Table table) taken (inr bad) = no_bad_rule (read_tzif bytes) table taken.0 taken.1 bad
