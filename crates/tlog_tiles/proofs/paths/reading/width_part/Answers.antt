use Rattle.std.proofs.Common.{◌++◌, refl, subst, ◌∙◌, codes}
use Rattle.tlog_tiles.specs.Path.{HasNoSlash}
use Rattle.tlog_tiles.proofs.TextLemmas.{no_width, some_slash, width_cut}
use Rattle.tlog_tiles.proofs.paths.reading.width_part.Goals as goal
use Rattle.tlog_tiles.proofs.paths.reading.width_part.Goals.{in-Some+in_default-strip_end, in_default}

pub returns : goal.returns
returns c = (
  refl,
  elim c.match-cut_last.branch [
    | in-Some+in_default-strip_end w ↦ no_width c.args.tail.now w.in-Some.before.now w.in-Some.digits.now
        w.in-Some.ensures.found.1 w.in-Some.ensures.found.0 w.in_default-strip_end.ensures.none
    | in_default w ↦ λ front last none h. some_slash (front ++ codes ".p") last
        (subst HasNoSlash (h ∙ width_cut front last) w.in_default.ensures.none)
  ],
)
