-- One call more in a record.
use Rattle.std.proofs.Common.{◌≡◌, ℕ, ◌+◌, ◌≤◌, List, [], ◌∷◌, ◌++◌, length, take, drop, ◌∙◌, ap, arith, length-drop}
use Rattle.std.proofs.lemmas.List.{take_all, take-append-le, drop-append-le}
use Rattle.delivery_journal.specs.declared.call.Call.{Call}
use Rattle.delivery_journal.specs.DiskInMemory.{Done, done_calls, written_count, total_count}

pub total_count-push : (calls : List Call) (call : Call) → total_count (calls ++ call ∷ []) ≡ total_count calls + written_count call
total_count-push [] call = omega arith
total_count-push (first ∷ calls) call = omega (arith, total_count-push calls call)

pub done_calls-push : (calls : List Call) (bytes : List ℕ) (call : Call) (more : List ℕ)
    → total_count calls ≡ length bytes → written_count call ≡ length more
    → done_calls (calls ++ call ∷ []) (bytes ++ more) ≡ done_calls calls bytes ++ record { call = call; bytes = more } ∷ []
done_calls-push [] [] call more total count =
    ap (λ (l : List ℕ). record { call = call; bytes = l } ∷ []) (take_all (written_count call) more (omega arith))
done_calls-push [] (b ∷ bytes) call more total count = absurd (omega arith)
done_calls-push (first ∷ calls) bytes call more total count =
    let n = written_count first in
    let le : n ≤ length bytes = omega arith in
    let rest : total_count calls ≡ length (drop n bytes) = omega (arith, length-drop n bytes) in
    ap (λ (l : List ℕ). record { call = first; bytes = l } ∷ done_calls (calls ++ call ∷ []) (drop n (bytes ++ more))) (take-append-le n bytes more le)
    ∙ ap (λ (l : List ℕ). record { call = first; bytes = take n bytes } ∷ done_calls (calls ++ call ∷ []) l) (drop-append-le n bytes more le)
    ∙ ap (λ (l : List Done). record { call = first; bytes = take n bytes } ∷ l) (done_calls-push calls (drop n bytes) call more rest count)
