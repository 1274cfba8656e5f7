use Rattle.std.proofs.Common.{◌≡◌, ◌+◌, ◌/◌, ◌++◌, length, take, drop, map, sym, refl, ap, ◌∙◌, arith, rules}
use Rattle.tlog_hash.specs.Tree.{mth}
use Rattle.mirror_trees.proofs.Descents.{no-pair, left-tree, right-tree}
use Rattle.mirror_trees.proofs.RowSteps.{ok_from, whole_row, power_some, two_of, fits_left, cut_whole, right_fits, units_fit}
use Rattle.mirror_trees.proofs.RowSteps.{rest_fits, ranges-take, row_join, row_right}
use Rattle.mirror_trees.proofs.rows.+push_row.Goals as goal

pub returns-then-size-unit : goal.returns-then-size-unit
returns-then-size-unit g t c = λ es tree. (
  refl,
  c.in_ok-push.ensures.items ∙
      ap (λ xs. c.args.row.now.items ++ xs)
      (sym (whole_row g.H.TreeHash.digest c.args.unit c.args.first c.args.count c.args.root.now es
      (power_some c.args.unit c.requires.power) c.requires.some (omega (arith, c.requires.within, c.if-size-unit.true))
      (tree.size_is ∙ c.if-size-unit.true) tree.root_is)),
)

pub returns-in_default : goal.returns-in_default
returns-in_default g t c = λ es tree.
    absurd (no-pair g.H.TreeHash.digest c.args.store.now c.args.size c.args.root.now
    (two_of c.args.unit c.args.first c.args.count c.args.size c.requires.power c.requires.some c.requires.within
    c.if-size-unit.false) c.in_default.ensures.none es tree)

pub returns-then-first-count : goal.returns-then-first-count
returns-then-first-count g t c =
    let len : length c.in-Some.pair.0 ≡ 32 = search rules in
    let two =
    two_of c.args.unit c.args.first c.args.count c.args.size c.requires.power c.requires.some c.requires.within
    c.if-size-unit.false in
    ok_from c.push_row.result _ _ (λ held f es tree.
    let h = f (take c.split-k.result es)
    (left-tree g.H.TreeHash.digest c.args.store.now g.met.H.TreeHash.digest_length c.in-Some.ensures.no_clash
    c.args.size c.split-k.result c.args.root.now c.in-Some.pair.0 c.in-Some.pair.1 two c.split-k.ensures.value len
    c.in-Some.ensures.some es tree) in (
      h.0,
      h.1 ∙
          ap (λ xs. c.args.row.now.items ++ map (mth g.H.TreeHash.digest) xs)
          (ranges-take c.args.unit c.args.first c.args.count c.split-k.result es
          (fits_left
          (c.args.first + c.args.count) c.args.unit c.split-k.result c.if-first-count.true)),
    )) c.push_row.ensures

pub push_row-requires-then-first-cut : goal.push_row-requires-then-first-cut
push_row-requires-then-first-cut g t c κs within = (
  search rules,
  (
    search rules,
    (
      c.requires.power,
      (
        c.requires.some,
        right_fits c.args.unit c.args.first c.args.count c.args.size c.split-k.result c.requires.power c.requires.some
            c.requires.within c.if-size-unit.false c.split-k.ensures.value c.if-first-cut.true,
      ),
    ),
  ),
)

pub returns-then-first-cut : goal.returns-then-first-cut
returns-then-first-cut g t c =
    let len : length c.in-Some.pair.0 ≡ 32 = search rules in
    let two =
    two_of c.args.unit c.args.first c.args.count c.args.size c.requires.power c.requires.some c.requires.within
    c.if-size-unit.false in
    let whole =
    cut_whole c.args.unit c.args.first c.args.count c.args.size c.split-k.result c.requires.power c.requires.some
    c.requires.within c.if-size-unit.false c.split-k.ensures.value in
    ok_from c.push_row-then-first-cut.result _ _ (λ held f es tree.
    let h = f (drop c.split-k.result es)
    (right-tree g.H.TreeHash.digest c.args.store.now g.met.H.TreeHash.digest_length c.in-Some.ensures.no_clash
    c.args.size c.split-k.result c.args.root.now c.in-Some.pair.0 c.in-Some.pair.1 two c.split-k.ensures.value len
    c.in-Some.ensures.some es tree) in (
      h.0,
      h.1 ∙
          ap (λ xs. c.args.row.now.items ++ xs)
          (row_right g.H.TreeHash.digest c.args.unit c.args.first c.args.count
          (c.split-k.result / c.args.unit) c.split-k.result es c.if-first-cut.true whole),
    )) c.push_row-then-first-cut.ensures

pub returns-then-not-branch : goal.returns-then-not-branch
returns-then-not-branch g t c = λ es tree.
    let len : length c.in-Some.pair.0 ≡ 32 = search rules in
    let two =
    two_of c.args.unit c.args.first c.args.count c.args.size c.requires.power c.requires.some c.requires.within
    c.if-size-unit.false in
    let h = c.in_ok-push_row.ensures (take c.split-k.result es)
    (left-tree g.H.TreeHash.digest c.args.store.now g.met.H.TreeHash.digest_length c.in-Some.ensures.no_clash
    c.args.size c.split-k.result c.args.root.now c.in-Some.pair.0 c.in-Some.pair.1 two c.split-k.ensures.value len
    c.in-Some.ensures.some es tree) in
    absurd (cc (h.0, c.if-not-branch.true))

pub push_row-requires-3 : goal.push_row-requires-3
push_row-requires-3 g t c κs within = (
  search rules,
  (
    search rules,
    (
      c.requires.power,
      (
        omega (arith, c.if-first-count.false),
        rest_fits c.args.unit c.args.first c.args.count c.args.size c.split-k.result c.requires.power c.requires.some
            c.requires.within c.if-size-unit.false c.split-k.ensures.value (omega (arith, c.if-first-count.false)),
      ),
    ),
  ),
)

pub returns : goal.returns
returns g t c =
    let len : length c.in-Some.pair.0 ≡ 32 = search rules in
    let two =
    two_of c.args.unit c.args.first c.args.count c.args.size c.requires.power c.requires.some c.requires.within
    c.if-size-unit.false in
    let whole =
    cut_whole c.args.unit c.args.first c.args.count c.args.size c.split-k.result c.requires.power c.requires.some
    c.requires.within c.if-size-unit.false c.split-k.ensures.value in
    ok_from c.push_row-3.result _ _ (λ held f es tree.
    let a = c.in_ok-push_row.ensures (take c.split-k.result es)
    (left-tree g.H.TreeHash.digest c.args.store.now g.met.H.TreeHash.digest_length c.in-Some.ensures.no_clash
    c.args.size c.split-k.result c.args.root.now c.in-Some.pair.0 c.in-Some.pair.1 two c.split-k.ensures.value len
    c.in-Some.ensures.some es tree) in
    let b = f (drop c.split-k.result es)
    (right-tree g.H.TreeHash.digest c.args.store.now g.met.H.TreeHash.digest_length c.in-Some.ensures.no_clash
    c.args.size c.split-k.result c.args.root.now c.in-Some.pair.0 c.in-Some.pair.1 two c.split-k.ensures.value len
    c.in-Some.ensures.some es tree) in (
      b.0,
      row_join g.H.TreeHash.digest c.args.unit c.args.first c.args.count
          (c.split-k.result / c.args.unit) c.split-k.result es c.args.row.now.items _ _
          (omega (arith, c.if-first-cut.false))
          (omega (arith, c.if-first-count.false)) whole a.1 b.1,
    )) c.push_row-3.ensures

pub split-k-requires : goal.split-k-requires
split-k-requires g t c =
    two_of c.args.unit c.args.first c.args.count c.args.size c.requires.power c.requires.some c.requires.within
    c.if-size-unit.false

pub nonzero_div-cut : goal.nonzero_div-cut
nonzero_div-cut g t c = power_some c.args.unit c.requires.power

pub overflow_add-first : goal.overflow_add-first
overflow_add-first g t c =
    units_fit (c.args.first + c.args.count) c.args.unit c.args.size c.requires.power c.requires.within c.ranges.size.fits

pub overflow_add-first-2 : goal.overflow_add-first-2
overflow_add-first-2 g t c =
    units_fit (c.args.first + c.args.count) c.args.unit c.args.size c.requires.power c.requires.within c.ranges.size.fits
