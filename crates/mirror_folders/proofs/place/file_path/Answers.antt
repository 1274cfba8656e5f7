use Rattle.std.proofs.Common.{ap, length, rules, sym, ◌∙◌}
use Rattle.std.proofs.lemmas.Bool.{eqb-false}
use Rattle.mirror_folders.proofs.place.file_path.Goals as goal

pub returns : goal.returns
returns c = record {
  named = λ none. eqb-false (length c.args.folder.now) 0 (sym c.is_empty.ensures ∙ c.if-is_empty.false) (ap length none);
  place_is = search rules;
}
