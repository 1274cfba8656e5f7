use Rattle.std.proofs.Common.{ℕ, ◌-◌, List, All, Bor, length, map, ◌<◌, ◌^◌, sym, subst}
use Rattle.tlog_tiles.specs.Bundle.{IsBundle}
use Rattle.program_copies.proofs.Cuts.{cut_err, cut_fits, cut_ok, err_then, ok_then}
use Rattle.program_copies.proofs.cutting.write_cut.Goals as goal

pub write_entries-requires-clause-fits : goal.write_entries-requires-clause-fits
write_entries-requires-clause-fits g c =
    let cut = c.args.cut.now in
    cut_fits c.deref.result.now cut.skip (cut.end - cut.skip)
    (subst (λ (es : List (Bor (List ℕ))). All (λ (e : List ℕ). length e < 2 ^ 16) (map (λ (e : Bor (List ℕ)). e.now) es))
    (sym c.deref.ensures.value) c.in-Ok.ensures.fits)

pub returns-clause-ok : goal.returns-clause-ok
returns-clause-ok g c =
    let cut = c.args.cut.now in
    ok_then c.write_entries.result _ _
    (cut_ok c.args.base64 cut.width cut.skip (cut.end - cut.skip) c.args.bytes.now c.deref.result.now
    (g.W.Write.contents c.args.output.now) (g.W.Write.contents c.write_entries.new.output)
    (subst (λ (es : List (Bor (List ℕ))). IsBundle cut.width c.args.bytes.now (map (λ (e : Bor (List ℕ)). e.now) es))
    (sym c.deref.ensures.value) c.in-Ok.ensures))
    c.write_entries.ensures.ok

pub returns-clause-err : goal.returns-clause-err
returns-clause-err g c =
    let cut = c.args.cut.now in
    err_then c.write_entries.result _ _
    (cut_err c.args.base64 cut.width cut.skip (cut.end - cut.skip) c.args.bytes.now c.deref.result.now
    (g.W.Write.contents c.args.output.now) (g.W.Write.contents c.write_entries.new.output)
    (subst (λ (es : List (Bor (List ℕ))). IsBundle cut.width c.args.bytes.now (map (λ (e : Bor (List ℕ)). e.now) es))
    (sym c.deref.ensures.value) c.in-Ok.ensures))
    c.write_entries.ensures.err
