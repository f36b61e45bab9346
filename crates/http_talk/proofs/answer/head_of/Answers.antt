-- The lines, one after the other, are the head.
use Rattle.std.proofs.Common.{◌≡◌, ℕ, List, [], ◌++◌, ap, codes, decimal}
use Rattle.http_talk.specs.Answers as answers
use Rattle.http_talk.proofs.answer.head_of.Goals as goal

joined : (t1 t2 t3 t4 t5 t6 a b c d e f g : List ℕ) → t1 ≡ a → t2 ≡ t1 ++ b → t3 ≡ t2 ++ c → c ≡ g
    → t4 ≡ t3 ++ d → t5 ≡ t4 ++ e → t6 ≡ t5 ++ f → t6 ≡ a ++ b ++ g ++ d ++ e ++ f
joined t1 t2 t3 t4 t5 t6 a b c d e f g p1 p2 p3 p4 p5 p6 p7 = cc

pub returns : goal.returns
returns c =
    joined _ _ _ _ _ _ (answers.line (codes "HTTP/1.1 " ++ decimal c.args.status.code ++ codes " " ++ c.args.status.reason.now))
    (answers.line (codes "Content-Type: " ++ c.args.content_type.now)) _
    _ (answers.line (codes "Connection: close")) (answers.line []) _ c.status_line-text.ensures.value c.put_line.ensures.bytes
    c.put_line-2.ensures.bytes (ap (λ digits. answers.line (codes "Content-Length: " ++ digits)) c.format.ensures.text)
    c.push.ensures.value c.put_line-3.ensures.bytes c.put_line-4.ensures.bytes
