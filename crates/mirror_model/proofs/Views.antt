-- Unions of views, and lawful views.
use Rattle.std.proofs.Common.{◌≡◌, ℕ, List, ◌∷◌, sym, refl, ◌∙◌, subst, inl, inr}
use Rattle.mirror_model.specs.Strings.{HasClash}
use Rattle.mirror_model.specs.View.{View, union, IsSubview}
use Rattle.mirror_model.specs.declared.items.Item.{Item}
use Rattle.mirror_model.specs.Item.{plus}
use Rattle.mirror_model.specs.Heads.{IsHead, HasHead}
use Rattle.mirror_model.specs.Complete.{HasEdge}
use Rattle.mirror_model.specs.LawfulLaws.{NothingIsLawful, UnionIsLawful}
use Rattle.mirror_model.specs.UnionLaws.{UnionClashesEitherWay, UnionCommutes, UnionAssociates, UnionIsIdempotent}
use Rattle.mirror_model.specs.UnionLaws.{MutualSubviewsAreEqual}
use Rattle.mirror_model.specs.CompleteLaws.{CompleteStays}
use Rattle.mirror_model.specs.MarkLaws.{MarksStay}
use Rattle.mirror_model.specs.ForkLaws.{ForksStay, ForkIsUnordered}
use Rattle.mirror_model.proofs.StringSets.{has_empty, has_left, has_right, has_cases, same_strings, union_comm}
use Rattle.mirror_model.proofs.StringSets.{union_assoc, union_itself, held_more}

pub union_commutes : UnionCommutes
union_commutes v w same =
    λ i. record { origin = same i; notes = union_comm v.notes w.notes i; strings = union_comm v.strings w.strings i }

pub union_associates : UnionAssociates
union_associates v w x =
    λ i. record {
      origin =
          v.origin;
      notes = union_assoc v.notes w.notes x.notes i;
      strings = union_assoc v.strings w.strings x.strings i;
    }

pub clashes_turn : UnionClashesEitherWay
clashes_turn digest v w c = subst (HasClash digest) (union_comm v.strings w.strings) c

pub union_repeats : UnionIsIdempotent
union_repeats v = λ i. record { origin = v.origin; notes = union_itself v.notes i; strings = union_itself v.strings i }

pub same_is_one : MutualSubviewsAreEqual
same_is_one v w a b =
    let notes : v.notes ≡ w.notes = same_strings v.notes w.notes a.notes_are b.notes_are in
    let strings : v.strings ≡ w.strings = same_strings v.strings w.strings a.strings_are b.strings_are in
    λ i. record { origin = a.origin_is i; notes = notes i; strings = strings i }

pub within_itself : (v : View) → IsSubview v v
within_itself v = record { origin_is = refl; notes_are = λ q h. h; strings_are = λ q h. h }

pub within_trans : (v w x : View) → IsSubview v w → IsSubview w x → IsSubview v x
within_trans v w x a b =
    record {
      origin_is =
          a.origin_is ∙ b.origin_is;
      notes_are =
          λ q h. b.notes_are q (a.notes_are q h);
      strings_are = λ q h. b.strings_are q (a.strings_are q h);
    }

pub within_union : (v w : View) → IsSubview v (union v w)
within_union v w =
    record {
      origin_is =
          refl;
      notes_are = λ q h. has_left v.notes w.notes q h;
      strings_are = λ q h. has_left v.strings w.strings q h;
    }

pub within_plus : (digest : List ℕ → List ℕ) (v : View) (x : Item) → IsSubview v (plus digest v x)
within_plus digest v x =
    record {
      origin_is =
          refl;
      notes_are = λ q h. has_left v.notes _ q h;
      strings_are = λ q h. has_left v.strings _ q h;
    }

-- a larger view has the same tree heads
pub head_stays : (v w : View) → IsSubview v w → (size : ℕ) (root : List ℕ) → HasHead v size root → HasHead w size root
head_stays v w a size root h =
    record {
      note =
          h.note;
      holds =
          record {
            is_held =
                a.notes_are h.note h.holds.is_held;
            is_head = subst (λ o. IsHead h.note o size root) a.origin_is h.holds.is_head;
          };
    }

pub complete_stays : CompleteStays
complete_stays digest v w a size root entries c = record {
  head = head_stays v w a size root c.head;
  tree = record {
    size_is =
        c.tree.size_is;
    root_is =
        c.tree.root_is;
    are_held = held_more v.strings w.strings _ a.strings_are c.tree.are_held;
  };
}

pub forks_stay : ForksStay
forks_stay digest v w a p q f = record {
  first_held = head_stays v w a p.size p.root f.first_held;
  second_held = head_stays v w a q.size q.root f.second_held;
  differ = f.differ;
  conflict = elim f.conflict [
    | inl e ↦ inl e
    | inr d ↦ inr
        (record {
          first =
              d.first;
          second =
              d.second;
          first_complete =
              complete_stays digest v w a p.size p.root d.first d.first_complete;
          second_complete =
              complete_stays digest v w a q.size q.root d.second d.second_complete;
          not_prefix =
              d.not_prefix;
          not_extension = d.not_extension;
        })
  ];
}

pub forks_turn : ForkIsUnordered
forks_turn digest v a b f = record {
  first_held = f.second_held;
  second_held = f.first_held;
  differ = λ e. f.differ (sym e);
  conflict = elim f.conflict [
    | inl e ↦ inl (sym e)
    | inr d ↦ inr
        (record {
          first =
              d.second;
          second =
              d.first;
          first_complete =
              d.second_complete;
          second_complete =
              d.first_complete;
          not_prefix = d.not_extension;
          not_extension = d.not_prefix;
        })
  ];
}

-- the right edge of a note stays held
pub edge_stays : (digest : List ℕ → List ℕ) (v w : View) → IsSubview v w → (note : List ℕ) → HasEdge digest v note →
    HasEdge digest w note
edge_stays digest v w a note e = record {
  size = e.size;
  root = e.root;
  is_head = subst (λ o. IsHead note o e.size e.root) a.origin_is e.is_head;
  edge = record {
    rows = e.edge.rows;
    has_edge =
        e.edge.has_edge;
    are_held = held_more v.strings w.strings _ a.strings_are e.edge.are_held;
  };
}

pub union_is_lawful : UnionIsLawful
union_is_lawful digest v w p q same clean =
    let back : IsSubview w (union v w) =
    record {
      origin_is =
          sym same;
      notes_are =
          λ n h. has_right v.notes w.notes n h;
      strings_are = λ s h. has_right v.strings w.strings s h;
    } in
    record {
      no_clash = clean;
      are_strings =
          λ s h. elim (has_cases v.strings w.strings s h) [ inl a ↦ p.are_strings s a | inr b ↦ q.are_strings s b ];
      leaves_short =
          λ e h. elim
          (has_cases v.strings w.strings (0 ∷ e) h) [ inl a ↦ p.leaves_short e a | inr b ↦ q.leaves_short e b ];
      edges = λ note h. elim
          (has_cases v.notes w.notes note h) [
            | inl a ↦ edge_stays digest v (union v w) (within_union v w) note
                (p.edges note a)
            | inr b ↦ edge_stays digest w (union v w) back note (q.edges note b)
          ];
    }

pub marks_stay : MarksStay
marks_stay digest v w a point m =
    record {
      size =
          m.size;
      root =
          m.root;
      entries =
          m.entries;
      complete =
          complete_stays digest v w a m.size m.root m.entries m.complete;
      node =
          m.node;
      is = m.is;
      len_is = m.len_is;
      hash_is = m.hash_is;
    }

pub nothing_is_lawful : NothingIsLawful
nothing_is_lawful digest origin = record {
  no_clash = record { same = λ x y hx hy e. absurd (has_empty x hx) };
  are_strings = λ s h. absurd (has_empty s h);
  leaves_short = λ e h. absurd (has_empty _ h);
  edges = λ note h. absurd (has_empty note h);
}
