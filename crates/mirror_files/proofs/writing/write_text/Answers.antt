use Rattle.std.proofs.Common.{ℕ, List, map}
use Rattle.std.proofs.lemmas.Result.{err_from_is_err_and}
use Rattle.std.specs.Borrow.{Bor}
use Rattle.mirror_files.specs.StateText.{VersionTwo, body_text}
use Rattle.mirror_files.specs.Putting.{pair_bytes}
use Rattle.mirror_files.proofs.Putting.{body_fails, body_ends}
use Rattle.mirror_files.proofs.writing.write_text.Goals as goal

pub returns-in_err-put_body : goal.returns-in_err-put_body
returns-in_err-put_body g c =
    let p = err_from_is_err_and c.from_residual.result c.from_residual.ensures.1 in
    rw p.1 (body_fails (g.W.Write.contents c.args.writer.now) (g.W.Write.contents c.put_body.new.writer) c.new-page.result
    c.put_body.new.page (body_text (VersionTwo c.args.origin.now (map (λ (n : Bor (List ℕ)). n.now) c.args.notes.now)
    (map pair_bytes c.args.held.now.pairs.items) (map (λ (e : Bor (List ℕ)). e.now) c.args.held.now.entries.items)))
    c.in_err-put_body.field-0.0 c.new-page.ensures.held c.in_err-put_body.ensures)

pub returns : goal.returns
returns g c =
    body_ends (g.W.Write.contents c.args.writer.now) (g.W.Write.contents c.put_body.new.writer)
    (g.W.Write.contents c.finish.new.writer) c.new-page.result c.put_body.new.page
    (body_text (VersionTwo c.args.origin.now (map (λ (n : Bor (List ℕ)). n.now) c.args.notes.now)
    (map pair_bytes c.args.held.now.pairs.items) (map (λ (e : Bor (List ℕ)). e.now) c.args.held.now.entries.items)))
    c.finish.result c.new-page.ensures.held c.new-page.ensures.hashed c.in_ok-put_body.ensures c.finish.ensures
