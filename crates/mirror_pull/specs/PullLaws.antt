-- Laws of honest rounds, and of the number of rounds that a pull counts.
use Rattle.std.specs.Prelude.{◌≡◌, ◌↔◌, ℕ, ◌^◌, ◌<◌, ◌≤◌, max, List, [], length, take}
use Rattle.tlog_shape.specs.Edge.{IsTop}
use Rattle.tlog_tiles.specs.declared.paths.Path.{Path}
use Rattle.node_store.specs.Strings.{HasAll}
use Rattle.mirror_model.specs.View.{View}
use Rattle.mirror_model.specs.Strings.{IsDigest}
use Rattle.mirror_model.specs.Edge.{edge_rows, edge_strings}
use Rattle.mirror_model.specs.Rounds.{IsRound}
use Rattle.mirror_model.specs.TrueLaws.{AreShort}
use Rattle.mirror_model.specs.Listed.{ListsFront}
use Rattle.mirror_sources.specs.Replies.{Reply}
use Rattle.mirror_sources.specs.Honest.{Gets}
use Rattle.mirror_pull.specs.Honest.{AreFrontRounds, with_true}
use Rattle.mirror_pull.specs.Replying.{ArePullRounds}

-- a round of a pull from an honest source is a round of fetching: it takes the front
abbrev pub HonestRoundIsRound : Type 0
HonestRoundIsRound =
    (digest : List ℕ → List ℕ) →
    IsDigest digest →
    (entries : List (List ℕ)) →
    AreShort entries →
    (size : ℕ) (v : View) (list founds : List Path) (replies : List Reply) →
    size ≤ length entries →
    size < 256 ^ 8 →
    HasAll v.strings (edge_strings digest (edge_rows digest (take size entries))) →
    ListsFront digest v (take size entries) list →
    Gets (length entries) list replies founds →
    IsRound digest (take size entries) v.strings (with_true digest entries v founds).strings

-- an honest pull has at most max(1, top) rounds, if top is the greatest level with a partial tile
abbrev pub HonestRoundsAreFew : Type 0
HonestRoundsAreFew =
    (digest : List ℕ → List ℕ) →
    IsDigest digest →
    (entries : List (List ℕ)) →
    AreShort entries →
    (size top : ℕ) (v w : View) (lists : List (List Path)) (replies : List Reply) →
    size ≤ length entries →
    size < 256 ^ 8 →
    IsTop size top →
    HasAll v.strings (edge_strings digest (edge_rows digest (take size entries))) →
    AreFrontRounds digest entries size v w lists replies →
    length lists ≤ max 1 top

-- a pull has no rounds exactly if it requests nothing after the rows of the right edge
abbrev pub NoRoundAsksNothing : Type 0
NoRoundAsksNothing =
    (digest : List ℕ → List ℕ) (size : ℕ) (root : List ℕ) (asked : List Path) (v w : View)
    (replies : List Reply) (rounds refused : ℕ) →
    ArePullRounds digest size root asked v replies rounds refused w →
    (rounds ≡ 0) ↔ (replies ≡ [])
