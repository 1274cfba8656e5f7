use Rattle.std.proofs.Common.{map, subst, ap, ◌∙◌, List, ℕ, Ok, Err}
use Rattle.std.specs.Prelude.{string_bytes}
use Rattle.std.proofs.lemmas.Result.{err_from_is_err_and}
use Rattle.tlog_hash.specs.Tree.{mth}
use Rattle.tlog_tiles.specs.Bundle.{ReadsBundle}
use Rattle.program_io.specs.Root.{root_text}
use Rattle.program_io.proofs.Cut.{made_fault, made_text}
use Rattle.program_io.proofs.root.root_report.Goals as goal

pub returns-in_err-entries-clause-text : goal.returns-in_err-entries-clause-text
returns-in_err-entries-clause-text g c =
    let p = err_from_is_err_and c.from_residual-in_err-entries.result c.from_residual-in_err-entries.ensures.1 in
    let reads = subst (λ (b : List ℕ). ReadsBundle c.args.width b (Err c.in_err-entries.field-0.0))
    c.deref.ensures.value c.in_err-entries.ensures in
    rw (p.1, p.2) (made_fault g.H.TreeHash.digest c.args.width
    (g.R.Read.remaining c.args.reader.now) c.in_ok-bytes.bytes.items c.in_err-entries.field-0.0 c.requires
    c.in_ok-bytes.ensures.bytes reads)

pub returns-clause-text : goal.returns-clause-text
returns-clause-text g c =
    let views = map (λ e. e.now) c.in_ok-entries.entries.items in
    let is_bundle = subst
    (λ (b : List ℕ). ReadsBundle c.args.width b (Ok views)) c.deref.ensures.value c.in_ok-entries.ensures in
    let text = c.in_ok-text_of.ensures in
    made_text g.H.TreeHash.digest c.args.width (g.R.Read.remaining c.args.reader.now) c.in_ok-bytes.bytes.items
    (string_bytes c.in_ok-text_of.field-0) views c.requires c.in_ok-bytes.ensures.bytes is_bundle
    (text ∙ ap (λ (h : List ℕ). root_text c.args.width h)
    (c.tree_hash.ensures ∙ ap (λ es. mth g.H.TreeHash.digest (map (λ e. e.now) es)) c.deref-2.ensures.value))
