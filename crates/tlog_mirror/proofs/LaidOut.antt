-- The laid out entries are the served ones.
use Rattle.std.proofs.Common.{ℕ, List}
use Rattle.mirror_model.specs.View.{View}
use Rattle.mirror_model.specs.Complete.{IsTreeOf}
use Rattle.mirror_model.specs.Served.{Served}
use Rattle.tlog_mirror.specs.Kept.{note_bytes}
use Rattle.mirror_trees.specs.Tops.{IsServedAs}
use Rattle.mirror_trees.specs.declared.held_note.HeldNote.{HeldNote}

-- the served note, with the entries of its tree as they were found
pub laid_anew :
    (digest : List ℕ → List ℕ) (v : View) (kept : HeldNote) (entries : List (List ℕ)) →
    IsServedAs digest v (note_bytes kept) kept.size kept.root →
    IsTreeOf digest v.strings kept.size kept.root entries →
    Served digest v (note_bytes kept) kept.size kept.root entries
laid_anew digest v kept entries is tree = record {
  holds = is.served.holds;
  tree = tree;
  greatest_size = is.served.greatest_size;
  least_root = is.served.least_root;
  least_note = is.served.least_note;
}
