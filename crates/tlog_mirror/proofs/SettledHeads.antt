-- The slices that are remembered for the tree heads of a mirror, step by step.
use Rattle.std.proofs.Common.{◌≡◌, ℕ, ◌+◌, ◌<◌, ◌≤◌, List, [], ◌∷◌, ◌++◌, length, take, drop, get_or, Ok, Err, ◌⊎◌, inl, inr}
use Rattle.std.proofs.Common.{sym, subst}
use Rattle.std.specs.Prelude.{All, Result, OnOk, ◌↔◌}
use Rattle.std.specs.List.{Contains}
use Rattle.std.proofs.lemmas.List.{take_more, take_all, take-append-drop}
use Rattle.std.proofs.lemmas.List.Elements.{All-push, All-weaker, All-contains, Contains-push, Contains-append_left}
use Rattle.node_store.specs.Strings.{Strings}
use Rattle.mirror_model.specs.View.{View}
use Rattle.mirror_model.specs.Forks.{Point}
use Rattle.mirror_model.specs.Marks.{Points, IsMark}
use Rattle.mirror_trees.specs.HeldTrees.{HasMark}
use Rattle.mirror_trees.specs.Slices.{HasSlices, IsSliceOf, AreSettled}
use Rattle.mirror_trees.proofs.Settles.{marks_are_slices}
use Rattle.mirror_trees.specs.Marked.{point_of}
use Rattle.mirror_trees.specs.Best.{HasKept}
use Rattle.tlog_mirror.specs.Kept.{state_of, IsKeptWell}
use Rattle.tlog_mirror.specs.Settled.{HasSlicesOf, GainsAny}
use Rattle.mirror_trees.specs.declared.held_note.HeldNote.{HeldNote}
use Rattle.tlog_mirror.proofs.ServedNotes.{head_from_kept, kept_head}

module _ (digest : List ℕ → List ℕ) (held : Strings) where
  -- one more tree head
  module _ (heads : List (ℕ × List ℕ)) (i : ℕ) (fits : i < length heads) (d : ℕ × List ℕ) (v w : Points)
      (at_least : (point : Point) → HasMark v point → HasMark w point) where
    abbrev first : List (ℕ × List ℕ)
    first = take i heads

    abbrev head : ℕ × List ℕ
    head = get_or heads i d

    more : take (i + 1) heads ≡ first ++ head ∷ []
    more = take_more heads i d fits

    pub done_more : All (HasSlicesOf digest held v) first → HasSlices digest held w head.0 head.1 →
        All (HasSlicesOf digest held w) (take (i + 1) heads)
    done_more all one =
        subst (All (HasSlicesOf digest held w)) (sym more)
        (All-push (HasSlicesOf digest held w) first head
        (All-weaker (HasSlicesOf digest held v) (HasSlicesOf digest held w)
        (λ h s point slice. at_least point (s point slice)) first all) one)

    pub gains_more : (u : Points) → GainsAny digest held first u v →
        ((point : Point) → HasMark w point → HasMark v point ⊎ IsSliceOf digest held head.0 head.1 point) →
        AreSettled digest held w → GainsAny digest held (take (i + 1) heads) u w
    gains_more u g at_most settled = subst (λ hs. GainsAny digest held hs u w) (sym more) (record {
      at_least = λ point h. at_least point (g.at_least point h);
      at_most = λ point h. elim (at_most point h) [
        | inl old ↦ elim (g.at_most point old) [
          | inl before ↦ inl before
          | inr s ↦ inr
              (record {
                head =
                    s.head;
                is_one = Contains-append_left first (head ∷ []) s.head s.is_one;
                slice = s.slice;
              })
        ]
        | inr s ↦ inr (record { head = head; is_one = Contains-push first head; slice = s })
      ];
      settled = settled;
    })

  -- the additions of the first tree heads are among the additions that all of them may make
  pub gains_all : (heads : List (ℕ × List ℕ)) (i : ℕ) (u v : Points) → GainsAny digest held (take i heads) u v →
      GainsAny digest held heads u v
  gains_all heads i u v g = record {
    at_least = g.at_least;
    at_most = λ point h. elim (g.at_most point h) [
      | inl old ↦ inl old
      | inr s ↦ inr (record {
        head = s.head;
        is_one = subst (λ hs. Contains hs s.head) (take-append-drop i heads)
            (Contains-append_left (take i heads) (drop i heads) s.head s.is_one);
        slice = s.slice;
      })
    ];
    settled = g.settled;
  }

  pub all_done : (heads : List (ℕ × List ℕ)) (i : ℕ) → length heads ≤ i → (v : Points) →
      All (HasSlicesOf digest held v) (take i heads) → All (HasSlicesOf digest held v) heads
  all_done heads i upto v all = subst (All (HasSlicesOf digest held v)) (take_all i heads upto) all

-- ---- a mirror that has settled its tree heads

module _ (digest : List ℕ → List ℕ) (origin : List ℕ) (kept : List HeldNote) (strings : Strings)
    (remembered now : Points) (ok : IsKeptWell digest origin kept strings remembered) (heads : List (ℕ × List ℕ))
    (exact : (p : ℕ × List ℕ) → Contains heads p ↔ HasKept kept (point_of p))
    (gains : GainsAny digest strings heads remembered now) where
  abbrev view : View
  view = (state_of origin kept strings remembered).view

  pub marks_now : (point : Point) → HasMark now point → IsMark digest view point
  marks_now point h =
      elim (gains.at_most point h) [
        | inl old ↦ ok.sound.marks point old
        | inr s ↦
            let head =
            head_from_kept digest origin kept strings remembered ok s.head.0 s.head.1 ((exact s.head).0 s.is_one) in
            (marks_are_slices digest view point).1
            (record { size = s.head.0; root = s.head.1; head = head; slice = s.slice })
      ]

  pub settled_well : IsKeptWell digest origin kept strings now
  settled_well = record {
    sound = record { origin = ok.sound.origin; lawful = ok.sound.lawful; marks = marks_now };
    settled = gains.settled;
    rising = ok.rising;
    said = ok.said;
  }

  all_marked : All (HasSlicesOf digest strings now) heads → (point : Point) → IsMark digest view point →
      HasMark now point
  all_marked all point m =
      let s = (marks_are_slices digest view point).0 m in
      let one : Contains heads (s.size, s.root) =
      (exact (s.size, s.root)).1 (kept_head digest origin kept strings remembered ok s.size s.root s.head) in
      All-contains (HasSlicesOf digest strings now) heads (s.size, s.root) all one point s.slice

  pub marked : {A E : Type 0} (r : Result A E) → OnOk r (All (HasSlicesOf digest strings now) heads) →
      OnOk r ((point : Point) → HasMark now point ↔ IsMark digest view point)
  marked (Err e) h = h
  marked (Ok done) h = λ point. (marks_now point, all_marked h point)
