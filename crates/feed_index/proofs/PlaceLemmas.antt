-- Where a search for a key ends.
use Rattle.std.proofs.Common.{ℕ, List, length, Result, Ok, Err, MatchResult}
use Rattle.std.specs.Cmp.{IsTotalOrder}
use Rattle.std.specs.List.Sorted.{IsBinarySearchResult, IsSearchInRange}
use Rattle.std.specs.declared.cmp.Ordering.{Ordering}
use Rattle.feed_index.specs.declared.row.Row.{Row}
use Rattle.feed_index.specs.Rows.{AreSorted, IsGapAt, StandsAt}
use Rattle.feed_index.proofs.RisingLemmas.{found_at, gap_at, searchable}

pub place_found : {K R : Type 0} {cmp : K → K → Ordering} (o : IsTotalOrder cmp) (rows : List (Row K R)) (key : K) (r : Result ℕ ℕ) →
    AreSorted cmp rows → IsSearchInRange r (length rows) → IsBinarySearchResult (λ (row : Row K R). cmp row.key key) rows r →
    MatchResult r (StandsAt cmp rows key) (IsGapAt cmp rows key)
place_found {K} {R} o rows key (Ok i) sorted within found =
    let parts = found_at (λ (row : Row K R). row.key) o key rows i sorted within found in
    record { within = within; same = found; low = parts.0; high = parts.1 }
place_found {K} {R} o rows key (Err i) sorted within found =
    let parts = gap_at (λ (row : Row K R). row.key) o key rows i within (found (searchable (λ (row : Row K R). row.key) o key rows sorted)) in
    record { within = within; low = parts.0; high = parts.1 }
