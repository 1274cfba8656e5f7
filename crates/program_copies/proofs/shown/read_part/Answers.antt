use Rattle.std.proofs.Common.{◌≡◌, List, ℕ, sym, ap, subst, arith}
use Rattle.tlog_tiles.specs.Cut.{IsFileCut}
use Rattle.tlog_tiles.specs.declared.paths.Path.TheVariants.{Entries}
use Rattle.log_reader.specs.Holding.{row_width}
use Rattle.log_reader.specs.Ways.{HasEdgeHashes}
use Rattle.program_copies.proofs.TrueFiles.{shown_has}
use Rattle.program_copies.proofs.shown.read_part.Goals as goal

pub returns-in-Some-clause-shown : goal.returns-in-Some-clause-shown
returns-in-Some-clause-shown g c =
    let path = Entries c.args.index c.args.width in
    let wide : c.min-wider.result ≡ row_width c.args.reader.now.edge.size 0 c.args.index =
    omega (arith, c.min-wider.ensures, c.size.ensures, ap (λ e. e.size) c.in_ok-bundle.ensures.edge) in
    record {
      bundle = c.in_ok-bundle.bundle.items;
      shown = c.in_ok-bundle.ensures.shown;
      first =
          subst (λ w. IsFileCut path w c.in_ok-bundle.bundle.items c.in_ok-from_slice-in-Some.field-0.items) wide
          (subst (λ (b : List ℕ). IsFileCut path c.min-wider.result b c.in_ok-from_slice-in-Some.field-0.items) c.deref.ensures.value
          (subst (λ (b : List ℕ). IsFileCut path c.min-wider.result c.deref.result.now b)
          (sym c.in_ok-from_slice-in-Some.ensures.items) c.in-Some.ensures.some));
    }

-- a shown bundle has its first entries
pub returns-clause-damage : goal.returns-clause-damage
returns-clause-damage g c =
    absurd (shown_has g.H.TreeHash.digest c.args.reader.now.edge
    (subst HasEdgeHashes c.in_ok-bundle.ensures.edge c.root-root.ensures.hashes) c.args.index c.args.width c.min-wider.result
    c.in_ok-bundle.bundle.items c.deref.result.now c.requires c.in_ok-bundle.ensures.shown
    (omega (arith, c.min-wider.ensures, c.size.ensures, ap (λ e. e.size) c.in_ok-bundle.ensures.edge)) c.deref.ensures.value
    c.in-None.ensures.none)

pub returns-clause-honest : goal.returns-clause-honest
returns-clause-honest g c =
    absurd (shown_has g.H.TreeHash.digest c.args.reader.now.edge
    (subst HasEdgeHashes c.in_ok-bundle.ensures.edge c.root-root.ensures.hashes) c.args.index c.args.width c.min-wider.result
    c.in_ok-bundle.bundle.items c.deref.result.now c.requires c.in_ok-bundle.ensures.shown
    (omega (arith, c.min-wider.ensures, c.size.ensures, ap (λ e. e.size) c.in_ok-bundle.ensures.edge)) c.deref.ensures.value
    c.in-None.ensures.none)
