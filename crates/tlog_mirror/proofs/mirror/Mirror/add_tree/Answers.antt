use Rattle.std.proofs.Common.{ap, map, Err}
use Rattle.std.specs.Prelude.{string_bytes}
use Rattle.mirror_trees.proofs.Settles.{built_stays}
use Rattle.tlog_mirror.specs.Adding.{tree_strings}
use Rattle.tlog_mirror.proofs.TakenItems.{tried_grows, tried_well, adds_done, adds_none}
use Rattle.tlog_mirror.proofs.mirror.Mirror.add_tree.Goals as goal
use Rattle.tlog_mirror.proofs.mirror.Mirror.add_tree.Goals.{in-Ok, in-Err}

pub add_entries-requires : goal.add_entries-requires
add_entries-requires g c = c.self.invariant.0.sound.lawful.no_clash

pub invariant_of-self : goal.invariant_of-self
invariant_of-self g c =
    let d = g.H.TreeHash.digest in
    let more = tree_strings d (map (λ e. e.now) c.args.entries.now) in
    let ok = c.add_entries.ensures.ok in
    let err = c.add_entries.ensures.err in (
      tried_well d (string_bytes c.self.inside.origin) c.self.inside.kept.items c.self.inside.strings more
          c.add_entries.new.store c.self.inside.known.remembered c.self.invariant.0 c.add_entries.result ok err
          g.met.H.TreeHash.digest_length c.add_entries.ensures.no_clash c.requires.tagged c.requires.short,
      (
        built_stays d c.self.inside.strings c.add_entries.new.store
            (tried_grows d (string_bytes c.self.inside.origin) c.self.inside.kept.items c.self.inside.strings more
            c.add_entries.new.store c.self.inside.known.remembered c.self.invariant.0 c.add_entries.result ok err)
            c.self.inside.known.built c.self.invariant.1.0,
        tt,
      ),
    )

pub returns-clause-adds : goal.returns-clause-adds
returns-clause-adds g c =
    let d = g.H.TreeHash.digest in
    let more = tree_strings d (map (λ e. e.now) c.args.entries.now) in
    elim c.match-add_entries.branch [
      | in-Ok w ↦ rw w.result-is
          (adds_done d (string_bytes c.self.inside.origin) c.self.inside.kept.items c.self.inside.strings more
          c.add_entries.new.store c.self.inside.known.remembered c.self.invariant.0 c.args.self.now c.self.view_is
          w.in-Ok.ensures.ok c.add_entries.ensures.no_clash)
      | in-Err w ↦ rw w.result-is
          (adds_none d (string_bytes c.self.inside.origin) c.self.inside.kept.items c.self.inside.strings more
          c.add_entries.new.store c.self.inside.known.remembered c.self.invariant.0 c.args.self.now c.self.view_is
          w.in-Err.fault w.in-Err.ensures.err (λ e. w.in-Err.ensures.collision (ap Err e)))
    ]
