use Rattle.std.proofs.Common.{◌≡◌, [], ◌∷◌, ◌++◌, ap, refl, sym, ◌∙◌, arith}
use Rattle.tlog_tiles.specs.declared.paths.Path.{Path}
use Rattle.mirror_folders.proofs.FilePaths.{index_is, partial_none, partial_some, path_is, width_is}
use Rattle.mirror_folders.proofs.PathLists.{full_more, kind_full, kind_listed}
use Rattle.mirror_folders.proofs.paths.push_kind.Goals as goal

pub loop-index-preserved : goal.loop-index-preserved
loop-index-preserved c = record {
  so_far = c.in_ok-push.ensures.items ∙ ap (λ path. c.loop-index.paths.items ++ path ∷ []) c.path_at.ensures
      ∙ full_more c.args.paths.now.items c.loop-index.paths.items c.args.kind c.loop-index.index
      c.loop-index.invariant.so_far;
}

pub returns : goal.returns
returns c =
    let n = c.args.size in
    let kind = c.args.kind in
    let level = c.level_at-level.result in
    let edge = c.edge_index-edge.result in
    let width = c.edge_width-width.result in
    let path = c.path_at-2.result in
    let all : c.loop-index.index ≡ edge = omega arith in
    let count = all ∙ index_is n n kind level edge refl c.level_at-level.ensures c.edge_index-edge.ensures in
    let same = width_is n n kind level width refl c.level_at-level.ensures c.edge_width-width.ensures in
    let at = path_is n n kind level edge width path refl c.level_at-level.ensures c.edge_index-edge.ensures
    c.edge_width-width.ensures c.path_at-2.ensures in
    kind_listed n kind c.loop-index.index c.args.paths.now.items c.loop-index.paths.items count
    c.loop-index.invariant.so_far path c.push-2.new.self.items
    (partial_some n kind (λ none. c.if-width-eq0.false (same ∙ none)) ∙ ap (λ (p : Path). p ∷ []) (sym at))
    c.in_ok-push-2.ensures.items

pub returns-then-width-eq0 : goal.returns-then-width-eq0
returns-then-width-eq0 c =
    let n = c.args.size in
    let kind = c.args.kind in
    let level = c.level_at-level.result in
    let edge = c.edge_index-edge.result in
    let all : c.loop-index.index ≡ edge = omega arith in
    let count = all ∙ index_is n n kind level edge refl c.level_at-level.ensures c.edge_index-edge.ensures in
    let same = width_is n n kind level c.edge_width-width.result refl c.level_at-level.ensures
    c.edge_width-width.ensures in
    kind_full n kind c.loop-index.index c.args.paths.now.items c.loop-index.paths.items count
    c.loop-index.invariant.so_far (partial_none n kind (sym same ∙ c.if-width-eq0.true))
