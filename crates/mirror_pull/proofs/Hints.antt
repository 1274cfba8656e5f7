-- A hint before a part of a pull allows no answer that could not come before.
use Rattle.std.proofs.Common.{ℕ, List, ◌∷◌, [], Option, Result, Ok, Err, Bool}
use Rattle.tlog_tiles.specs.declared.paths.Path.{Path}
use Rattle.mirror_model.specs.View.{View}
use Rattle.mirror_sources.specs.Replies.{Reply}
use Rattle.mirror_sources.specs.Source.{StaysWithin}
use Rattle.mirror_pull.specs.Parts.{GetsAll, MayTake, TakesTrue, TakesPathHonestly}
use Rattle.mirror_pull.specs.Replying.{Gathers, EndsWith, PathFollows}
use Rattle.mirror_pull.specs.declared.fault.PullFault.{PullFault}
use Rattle.mirror_pull.proofs.Askings.{may_stays}
use Rattle.mirror_pull.proofs.TrueRows.{source_stays}

module _ (may later : Path → Option (List ℕ) → Type 0) (stays : StaysWithin may later) where
  gathers_before : (a b : Option (List Path)) (before after : List Path) (P : List Reply → Type 0) →
      Gathers later a b before after P → Gathers may a b before after P
  gathers_before a b before after P g = record {
    replies = g.replies;
    are = g.are;
    may_reply = may_stays may later g.replies stays g.may_reply;
    list = g.list;
    recorded = g.recorded;
  }

  ends_before : (a b : Option (List Path)) (P : List Reply → List Path → Type 0) →
      EndsWith later a b P → EndsWith may a b P
  ends_before a b P e = record {
    replies = e.replies;
    tried = e.tried;
    are = e.are;
    may_reply = may_stays may later e.replies stays e.may_reply;
    recorded = e.recorded;
  }

  pub path_before : (a b : Option (List Path)) (before after : List Path) (digest : List ℕ → List ℕ) (v : View)
      (path : Path) (w : View) (result : Result Bool PullFault) →
      PathFollows later a b before after digest v path w result → PathFollows may a b before after digest v path w result
  path_before a b before after digest v path w (Ok refused) p = gathers_before a b before after _ p
  path_before a b before after digest v path w (Err e) p = ends_before a b _ p

  gets_before : (n : ℕ) (paths before after : List Path) → GetsAll n later paths before after →
      GetsAll n may paths before after
  gets_before n paths before after g = record {
    replies = g.replies;
    founds = g.founds;
    are = g.are;
    may_reply = may_stays may later g.replies stays g.may_reply;
    list = g.list;
  }

  takes_before : (digest : List ℕ → List ℕ) (entries : List (List ℕ)) (paths before after : List Path) (v w : View) →
      TakesTrue digest entries later paths before after v w → TakesTrue digest entries may paths before after v w
  unfolding gets_before
  takes_before digest entries paths before after v w t = record {
    gets = gets_before _ paths before after t.gets;
    taken = t.taken;
  }

  may_take_later : (digest : List ℕ → List ℕ) (entries : List (List ℕ)) (size : ℕ) (v : View) (asked paths : List Path) →
      MayTake digest entries size may v asked paths → MayTake digest entries size later v asked paths
  may_take_later digest entries size v asked paths m = record {
    source = source_stays digest entries may later stays m.source;
    within = m.within;
    clean = m.clean;
    paths_are = m.paths_are;
    fresh = m.fresh;
  }

  pub honestly_before : (before after : List Path) (digest : List ℕ → List ℕ) (v : View) (path : Path) (w : View)
      (result : Result Bool PullFault) → TakesPathHonestly later before after digest v path w result →
      TakesPathHonestly may before after digest v path w result
  honestly_before before after digest v path w (Ok refused) h =
      λ entries size m.
      let took = h entries size (may_take_later digest entries size v before (path ∷ []) m) in
      (took.0, takes_before digest entries (path ∷ []) before after v w took.1)
  honestly_before before after digest v path w (Err e) h =
      λ entries size m. h entries size (may_take_later digest entries size v before (path ∷ []) m)
