use Rattle.std.proofs.Common.{◌≡◌, ◌∙◌, ℕ, List, ◌++◌, Result, Ok, Err, OnOk, is_ok, if◌then◌else◌}
use Rattle.std.proofs.Common.{append_assoc, string_bytes}
use Rattle.mirror_model.specs.Texts.{point_text}
use Rattle.tlog_mirror.proofs.report_texts.push_fork.Goals as goal

-- five texts were added, in order
five_added : {T E : Type 0} (r : Result T E) (old f s g t l : List ℕ) (one two three four new : List ℕ) →
    one ≡ old ++ f → two ≡ one ++ s → three ≡ two ++ g → four ≡ three ++ t →
    new ≡ (if is_ok r then four ++ l else four) → OnOk r (new ≡ old ++ (f ++ ((s ++ (g ++ t)) ++ l)))
five_added (Ok u) old f s g t l one two three four new a b d e n = n ∙ rw (e, d, b, a) (simp append_assoc)
five_added (Err x) old f s g t l one two three four new a b d e n = tt

pub returns : goal.returns
returns c =
    five_added c.push_str-3.result (string_bytes c.args.text.now)
    _ (point_text c.args.fork.now.small.0 c.args.fork.now.small.1)
    _ (point_text c.args.fork.now.large.0 c.args.fork.now.large.1) _
    (string_bytes c.push_str.new.self) (string_bytes c.push_point.new.text) (string_bytes c.push_str-2.new.self)
    (string_bytes c.push_point-2.new.text) (string_bytes c.push_str-3.new.self)
    c.in_ok-push_str.ensures.bytes c.in_ok-push_point.ensures c.in_ok-push_str-2.ensures.bytes
    c.in_ok-push_point-2.ensures c.push_str-3.ensures.bytes
