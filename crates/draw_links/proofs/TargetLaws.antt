-- Notes in the targets of the things that are no flows: what they leave as it is, and that links come to the same without them. Assumes nothing.
use Prim.Native.Nat.{ℕ, zero, suc, ◌+◌, ◌*◌, ◌≤◌, ◌<◌}
use mathlib.Core.Path.{◌≡◌, refl, sym, ◌∙◌, ap, subst}
use mathlib.Core.Bool.{Bool, true, false, ◌&&◌, ◌||◌, false≢true}
use mathlib.Core.List.{List}
use mathlib.Core.Logic.{⊎_elim}
use native.Mathlib.Nat.{eq-or-lt_of_le, le_of_suc-le-suc, not-suc-le-zero}
use native.Mathlib.Omega.{arith}
use lib.Dec.{eqb, leb}
use lib.ListN.{length, set, length-set}
use lib.Seq.{get_or-set_same, get_or-set_other, set-get_or, set-set, set_comm, set_out}
use borrow.Author.Tests.{leb-true, eqb-true, ne_eqb}
use Rattle.base_words.specs.All.{all}
use Rattle.base_words.specs.Iter.{iter}
use Rattle.base_words.specs.Pick.{if◌then◌or_else◌}
use Rattle.base_words.specs.Seek.{seek}
use Rattle.base_words.specs.Text.{bytes}
use Rattle.base_words.specs.Words.{at, part}
use Rattle.base_words.proofs.AllLaws.{all_at, and_left}
use Rattle.base_words.proofs.IterLaws.{iter_keeps}
use Rattle.base_bytes.specs.Bytes.{same_bytes}
use Rattle.xml_markup.specs.Tokens.{found}
use Rattle.xml_markup.specs.Spans.{local_of, attribute}
use Rattle.draw_things.specs.Things.{sort, place, within, source, target, is_node, thing_words, sort_place, place_place, within_place, source_place, target_place, participant, message_flow, process, sequence_flow}
use Rattle.draw_links.specs.Links.{if_is, has_id, may_name, or_none, meant, named, flow_joined, owned, linked, links}
use Rattle.draw_links.specs.Notes.{note_by, note_of, is_flow, retargeted, no_note, noted, bared, is_free, Noted, NotedIf}

-- WHICH SORTS ARE NO FLOWS
no_flow : (s : ℕ) → (s ≡ sequence_flow → ⊥) → (s ≡ message_flow → ⊥) → eqb s sequence_flow || eqb s message_flow ≡ false
no_flow s a b = rw (ne_eqb s sequence_flow a, ne_eqb s message_flow b)

pub node_no_flow : (s : ℕ) → is_node s ≡ true → eqb s sequence_flow || eqb s message_flow ≡ false
unfolding is_node
node_no_flow s e = let h : 12 ≤ s = leb-true 12 s (and_left (leb 12 s) (leb s 21) e) in no_flow s (λ q. omega (arith, q, h)) (λ q. omega (arith, q, h))

pub participant_no_flow : (s : ℕ) → eqb s participant ≡ true → eqb s sequence_flow || eqb s message_flow ≡ false
participant_no_flow s e = let h : s ≡ participant = eqb-true s participant e in no_flow s (λ q. omega (arith, q, h)) (λ q. omega (arith, q, h))

pub process_no_flow : (r s : ℕ) → r ≡ s → r ≡ process → eqb s sequence_flow || eqb s message_flow ≡ false
process_no_flow r s e h = no_flow s (λ q. omega (arith, q, e, h)) (λ q. omega (arith, q, e, h))

pub end_no_flow : (s : ℕ) → is_node s || eqb s participant ≡ true → eqb s sequence_flow || eqb s message_flow ≡ false
end_no_flow s = go (is_node s) refl
  where
    go : (b : Bool) → is_node s ≡ b → b || eqb s participant ≡ true → eqb s sequence_flow || eqb s message_flow ≡ false
    go true e h = node_no_flow s e
    go false e h = participant_no_flow s h

flow_same : (x y : List ℕ) (j : ℕ) → sort x j ≡ sort y j → is_flow x j ≡ is_flow y j
flow_same x y j e = ap (λ (s : ℕ). eqb s sequence_flow || eqb s message_flow) e

note_same : (t x y : List ℕ) (j : ℕ) → place x j ≡ place y j → note_of t x j ≡ note_of t y j
unfolding note_of
note_same t x y j e = ap (λ (q : ℕ). note_by t (found t (bytes "id") q)) e

-- WHAT STAYS while targets change
module _ (f : List ℕ → ℕ → ℕ) where
  retarget_at : (k i : ℕ) (w : List ℕ) → (i ≡ target_place k → ⊥) → at (retargeted f k w) i ≡ at w i
  unfolding retargeted
  retarget_at k i w h = go (is_flow w k)
    where
      go : (b : Bool) → at (if b then w or_else set w (target_place k) (f w k)) i ≡ at w i
      go true = unfold if◌then◌or_else◌ in refl
      go false = unfold if◌then◌or_else◌ in get_or-set_other w (target_place k) i (f w k) 0 h

  retarget_length : (k : ℕ) (w : List ℕ) → length (retargeted f k w) ≡ length w
  unfolding retargeted
  retarget_length k w = go (is_flow w k)
    where
      go : (b : Bool) → length (if b then w or_else set w (target_place k) (f w k)) ≡ length w
      go true = unfold if◌then◌or_else◌ in refl
      go false = unfold if◌then◌or_else◌ in length-set w (target_place k) (f w k)

  pub retarget_out : (k : ℕ) (w : List ℕ) → length w < thing_words * (k + 1) → w ≡ retargeted f k w
  unfolding retargeted
  retarget_out k w h = go (is_flow w k)
    where
      go : (b : Bool) → w ≡ (if b then w or_else set w (target_place k) (f w k))
      go true = unfold if◌then◌or_else◌ in refl
      go false = unfold if◌then◌or_else◌ in sym (set_out w (target_place k) (f w k) (omega (arith, h)))

  stays_at : (i m : ℕ) (w : List ℕ) → ((k : ℕ) → i ≡ target_place k → ⊥) → at (iter (retargeted f) w m) i ≡ at w i
  stays_at i m w h = iter_keeps (retargeted f) w (λ x. at x i ≡ at w i) m (λ k x l e. retarget_at k i x (h k) ∙ e) refl

  sort_stays : (m : ℕ) (w : List ℕ) (j : ℕ) → sort (iter (retargeted f) w m) j ≡ sort w j
  sort_stays m w j = stays_at (sort_place j) m w (λ k q. omega (arith, q))

  place_stays : (m : ℕ) (w : List ℕ) (j : ℕ) → place (iter (retargeted f) w m) j ≡ place w j
  place_stays m w j = stays_at (place_place j) m w (λ k q. omega (arith, q))

  within_stays : (m : ℕ) (w : List ℕ) (j : ℕ) → within (iter (retargeted f) w m) j ≡ within w j
  within_stays m w j = stays_at (within_place j) m w (λ k q. omega (arith, q))

  source_stays : (m : ℕ) (w : List ℕ) (j : ℕ) → source (iter (retargeted f) w m) j ≡ source w j
  source_stays m w j = stays_at (source_place j) m w (λ k q. omega (arith, q))

-- WHAT IS NAMED does not depend on targets
module _ (t x y : List ℕ) (s : (j : ℕ) → sort x j ≡ sort y j) (p : (j : ℕ) → place x j ≡ place y j) (i : (j : ℕ) → within x j ≡ within y j) (o : (j : ℕ) → source x j ≡ source y j) where
  may_same : (k j : ℕ) → may_name x k j ≡ may_name y k j
  unfolding may_name
  may_same k j =
      λ z. if eqb (s k z) sequence_flow then is_node (s j z) && eqb (i j z) (i k z)
      or_else if eqb (s k z) message_flow then is_node (s j z) || eqb (s j z) participant
      or_else if eqb (s k z) participant then eqb (s j z) process
      or_else eqb (s j z) sequence_flow && eqb (o j z) k

  has_same : (v : List ℕ) (j : ℕ) → has_id t v x j ≡ has_id t v y j
  unfolding has_id
  has_same v j = ap (λ (q : ℕ). if_is (attribute t q (bytes "id")) (λ from to. same_bytes (part t from to) v) false) (p j)

  meant_same : (n k : ℕ) (v : List ℕ) → meant t x n k v ≡ meant t y n k v
  unfolding meant
  meant_same n k v = λ z. or_none n (seek (λ j. may_same k j z && has_same v j z) n)

  named_same : (n k : ℕ) (name : List ℕ) → named t x n k name ≡ named t y n k name
  unfolding named
  named_same n k name = λ z. if_is (attribute t (p k z) name) (λ from to. meant_same n k (local_of (part t from to)) z) 0

-- NOTES TAKEN AWAY
module _ (k p v : ℕ) (w : List ℕ) (h : sort_place k ≡ p → ⊥) where
  sort_apart : sort (set w p v) k ≡ sort w k
  sort_apart = get_or-set_other w p (sort_place k) v 0 h

  -- with a store elsewhere
  bare_set : (is_flow w k ≡ false → p ≡ target_place k → ⊥) → retargeted no_note k (set w p v) ≡ set (retargeted no_note k w) p v
  unfolding retargeted
  bare_set g =
      ap (λ (s : ℕ). if eqb s sequence_flow || eqb s message_flow then set w p v or_else set (set w p v) (target_place k) 0) sort_apart
      ∙ go (is_flow w k) refl
    where
      go : (b : Bool) → is_flow w k ≡ b → (if b then set w p v or_else set (set w p v) (target_place k) 0) ≡ set (if b then w or_else set w (target_place k) 0) p v
      go true e = unfold if◌then◌or_else◌ in refl
      go false e = unfold if◌then◌or_else◌ in set_comm w p (target_place k) v 0 (g e)

bared-set : (m p v : ℕ) (w : List ℕ) → ((k : ℕ) → sort_place k ≡ p → ⊥) → ((k : ℕ) → k < m → is_flow w k ≡ false → p ≡ target_place k → ⊥) → iter (retargeted no_note) (set w p v) m ≡ set (iter (retargeted no_note) w m) p v
unfolding iter
bared-set zero p v w h g = refl
bared-set (suc m) p v w h g =
    ap (retargeted no_note m) (bared-set m p v w h (λ k l. g k (omega (arith, l))))
    ∙ bare_set m p v (iter (retargeted no_note) w m) (h m) (λ e. g m (omega arith) (sym (flow_same (iter (retargeted no_note) w m) w m (sort_stays no_note m w m)) ∙ e))

-- with a note in the same place
bare_over : (k v : ℕ) (w : List ℕ) → is_flow w k ≡ false → retargeted no_note k (set w (target_place k) v) ≡ retargeted no_note k w
unfolding retargeted
bare_over k v w e =
    ap (λ (s : ℕ). if eqb s sequence_flow || eqb s message_flow then set w (target_place k) v or_else set (set w (target_place k) v) (target_place k) 0) (sort_apart k (target_place k) v w (λ q. omega (arith, q)))
    ∙ go (is_flow w k) e
  where
    go : (b : Bool) → b ≡ false → (if b then set w (target_place k) v or_else set (set w (target_place k) v) (target_place k) 0) ≡ (if b then w or_else set w (target_place k) 0)
    go true q = absurd (false≢true (sym q))
    go false q = unfold if◌then◌or_else◌ in set-set w (target_place k) v 0

last_over : (m v : ℕ) (w : List ℕ) → is_flow w m ≡ false → iter (retargeted no_note) (set w (target_place m) v) (suc m) ≡ iter (retargeted no_note) w (suc m)
unfolding iter
last_over m v w e =
    ap (retargeted no_note m) (bared-set m (target_place m) v w (λ k q. omega (arith, q)) (λ k l f q. omega (arith, l, q)))
    ∙ bare_over m v (iter (retargeted no_note) w m) (flow_same (iter (retargeted no_note) w m) w m (sort_stays no_note m w m) ∙ e)

bared_over : (n k v : ℕ) (w : List ℕ) → is_flow w k ≡ false → k < n → iter (retargeted no_note) (set w (target_place k) v) n ≡ iter (retargeted no_note) w n
unfolding iter
bared_over zero k v w e h = absurd (not-suc-le-zero h)
bared_over (suc m) k v w e h =
    ⊎_elim
    (λ q. subst (λ (z : ℕ). iter (retargeted no_note) (set w (target_place z) v) (suc m) ≡ iter (retargeted no_note) w (suc m)) (sym q) (last_over m v w (subst (λ (z : ℕ). is_flow w z ≡ false) q e)))
    (λ l. ap (retargeted no_note m) (bared_over m k v w e l))
    (eq-or-lt_of_le (le_of_suc-le-suc h))

bared-noted : (f : List ℕ → ℕ → ℕ) (n : ℕ) (w : List ℕ) → iter (retargeted no_note) (iter (retargeted f) w n) n ≡ iter (retargeted no_note) w n
bared-noted f n w = iter_keeps (retargeted f) w (λ x. iter (retargeted no_note) x n ≡ iter (retargeted no_note) w n) n (λ k x l h. one k x l ∙ h) refl
  where
    go : (k : ℕ) (x : List ℕ) → k < n → (b : Bool) → is_flow x k ≡ b → iter (retargeted no_note) (if b then x or_else set x (target_place k) (f x k)) n ≡ iter (retargeted no_note) x n
    go k x l true e = unfold if◌then◌or_else◌ in refl
    go k x l false e = unfold if◌then◌or_else◌ in bared_over n k (f x k) x e l

    one : (k : ℕ) (x : List ℕ) → k < n → iter (retargeted no_note) (retargeted f k x) n ≡ iter (retargeted no_note) x n
    one k x l = unfold retargeted in go k x l (is_flow x k) refl

-- where there is none
bare_free : (w : List ℕ) (k : ℕ) → is_free w k ≡ true → retargeted no_note k w ≡ w
unfolding is_free retargeted
bare_free w k e = go (is_flow w k) e
  where
    go : (b : Bool) → b || eqb (target w k) 0 ≡ true → (if b then w or_else set w (target_place k) 0) ≡ w
    go true h = unfold if◌then◌or_else◌ in refl
    go false h = unfold if◌then◌or_else◌ in ap (set w (target_place k)) (sym (eqb-true (target w k) 0 h)) ∙ set-get_or w (target_place k) 0

bared_free : (w : List ℕ) (m : ℕ) → ((k : ℕ) → k < m → is_free w k ≡ true) → iter (retargeted no_note) w m ≡ w
unfolding iter
bared_free w zero h = refl
bared_free w (suc m) h = ap (retargeted no_note m) (bared_free w m (λ k l. h k (omega (arith, l)))) ∙ bare_free w m (h m (omega arith))

-- LINKS AND NOTES
module _ (t : List ℕ) (n k : ℕ) (x : List ℕ) where
  -- the places that a link leaves as they are
  linked-at : (i : ℕ) → (i ≡ source_place k → ⊥) → (is_flow x k ≡ true → i ≡ target_place k → ⊥) → at (linked t n k x) i ≡ at x i
  unfolding linked flow_joined owned
  linked-at i h g = go (is_flow x k) refl (eqb (sort x k) participant)
    where
      source-set : (v : ℕ) → at (set x (source_place k) v) i ≡ at x i
      source-set v = get_or-set_other x (source_place k) i v 0 h

      go : (a : Bool) → is_flow x k ≡ a → (b : Bool)
          → at (if a then set (set x (source_place k) (named t x n k (bytes "sourceRef"))) (target_place k) (named t x n k (bytes "targetRef")) or_else if b then set x (source_place k) (named t x n k (bytes "processRef")) or_else x) i ≡ at x i
      go true e b = unfold if◌then◌or_else◌ in get_or-set_other (set x (source_place k) (named t x n k (bytes "sourceRef"))) (target_place k) i (named t x n k (bytes "targetRef")) 0 (g e) ∙ source-set _
      go false e true = unfold if◌then◌or_else◌ in source-set _
      go false e false = unfold if◌then◌or_else◌ in refl

  linked_long : length (linked t n k x) ≡ length x
  unfolding linked flow_joined owned
  linked_long = go (is_flow x k) (eqb (sort x k) participant) (named t x n k (bytes "sourceRef")) (named t x n k (bytes "targetRef")) (named t x n k (bytes "processRef"))
    where
      go : (a b : Bool) (u v o : ℕ) → length (if a then set (set x (source_place k) u) (target_place k) v or_else if b then set x (source_place k) o or_else x) ≡ length x
      go true b u v o = unfold if◌then◌or_else◌ in length-set (set x (source_place k) u) (target_place k) v ∙ length-set x (source_place k) u
      go false true u v o = unfold if◌then◌or_else◌ in length-set x (source_place k) o
      go false false u v o = unfold if◌then◌or_else◌ in refl

  link_keeps : (m : ℕ) → Noted t x m → Noted t (linked t n k x) m
  link_keeps m h j l e r =
      let s : sort (linked t n k x) j ≡ sort x j = linked-at (sort_place j) (λ q. omega (arith, q)) (λ f q. omega (arith, q)) in
      let p : place (linked t n k x) j ≡ place x j = linked-at (place_place j) (λ q. omega (arith, q)) (λ f q. omega (arith, q)) in
      let d : is_flow x j ≡ false = sym (flow_same (linked t n k x) x j s) ∙ e in
      linked-at (target_place j) (λ q. omega (arith, q)) (λ f q. false≢true (sym (subst (λ (z : ℕ). is_flow x z ≡ false) (let g : j ≡ k = omega (arith, q) in g) d) ∙ f))
      ∙ h j l d (subst (λ (z : ℕ). thing_words * (j + 1) ≤ z) linked_long r)
      ∙ sym (note_same t (linked t n k x) x j p)

  -- a link comes to the same without the notes
  module _ (m : ℕ) where
    abbrev y : List ℕ
    y = iter (retargeted no_note) x m

    source-bared : (v : ℕ) → iter (retargeted no_note) (set x (source_place k) v) m ≡ set y (source_place k) v
    source-bared v = bared-set m (source_place k) v x (λ j q. omega (arith, q)) (λ j l f q. omega (arith, q))

    both_bared : (a b : ℕ) → is_flow x k ≡ true → iter (retargeted no_note) (set (set x (source_place k) a) (target_place k) b) m ≡ set (set y (source_place k) a) (target_place k) b
    both_bared a b e =
        bared-set m (target_place k) b (set x (source_place k) a) (λ j q. omega (arith, q)) (λ j l f q. false≢true (sym (still j f q) ∙ e))
        ∙ ap (λ (z : List ℕ). set z (target_place k) b) (source-bared a)
      where
        still : (j : ℕ) → is_flow (set x (source_place k) a) j ≡ false → target_place k ≡ target_place j → is_flow x k ≡ false
        still j f q =
            sym (flow_same (set x (source_place k) a) x k (sort_apart k (source_place k) a x (λ r. omega (arith, r))))
            ∙ subst (λ (z : ℕ). is_flow (set x (source_place k) a) z ≡ false) (let r : j ≡ k = omega (arith, q) in r) f

    name_bared : (name : List ℕ) → named t x n k name ≡ named t y n k name
    name_bared name = named_same t x y (λ j. sym (sort_stays no_note m x j)) (λ j. sym (place_stays no_note m x j)) (λ j. sym (within_stays no_note m x j)) (λ j. sym (source_stays no_note m x j)) n k name

    abbrev form : ℕ → ℕ → ℕ → ℕ → List ℕ
    form s a b c = if eqb s sequence_flow || eqb s message_flow then set (set y (source_place k) a) (target_place k) b or_else if eqb s participant then set y (source_place k) c or_else y

    link_bared : iter (retargeted no_note) (linked t n k x) m ≡ linked t n k y
    unfolding linked flow_joined owned
    link_bared =
        go (is_flow x k) refl (eqb (sort x k) participant) (named t x n k (bytes "sourceRef")) (named t x n k (bytes "targetRef")) (named t x n k (bytes "processRef"))
        ∙ λ z. form (sym (sort_stays no_note m x k) z) (name_bared (bytes "sourceRef") z) (name_bared (bytes "targetRef") z) (name_bared (bytes "processRef") z)
      where
        go : (d : Bool) → is_flow x k ≡ d → (f : Bool) (a b c : ℕ)
            → iter (retargeted no_note) (if d then set (set x (source_place k) a) (target_place k) b or_else if f then set x (source_place k) c or_else x) m ≡ (if d then set (set y (source_place k) a) (target_place k) b or_else if f then set y (source_place k) c or_else y)
        go true e f a b c = unfold if◌then◌or_else◌ in both_bared a b e
        go false e true a b c = unfold if◌then◌or_else◌ in source-bared c
        go false e false a b c = unfold if◌then◌or_else◌ in refl

links-bared : (t : List ℕ) (n m k : ℕ) (x : List ℕ) → iter (retargeted no_note) (iter (linked t n) x k) m ≡ iter (linked t n) (iter (retargeted no_note) x m) k
unfolding iter
links-bared t n m zero x = refl
links-bared t n m (suc k) x = link_bared t n k (iter (linked t n) x k) m ∙ ap (linked t n k) (links-bared t n m k x)

pub notes_stay : (b : Bool) (t w u : List ℕ) (n m k : ℕ) → u ≡ iter (linked t m) w k → NotedIf b t w n → NotedIf b t u n
notes_stay b t w u n m k e a y = subst (λ (x : List ℕ). Noted t x n) (sym e) (iter_keeps (linked t m) w (λ x. Noted t x n) k (λ i x l h. link_keeps t m i x n h) (a y))

-- NOTES ONE BY ONE
module _ (t x : List ℕ) (m : ℕ) where
  abbrev next : List ℕ
  next = retargeted (note_of t) m x

  sort_next : (j : ℕ) → sort next j ≡ sort x j
  sort_next j = retarget_at (note_of t) m (sort_place j) x (λ q. omega (arith, q))

  place_next : (j : ℕ) → place next j ≡ place x j
  place_next j = retarget_at (note_of t) m (place_place j) x (λ q. omega (arith, q))

  noted_here : thing_words * (m + 1) ≤ length x → is_flow x m ≡ false → target next m ≡ note_of t x m
  unfolding retargeted
  noted_here room = go (is_flow x m)
    where
      go : (b : Bool) → b ≡ false → at (if b then x or_else set x (target_place m) (note_of t x m)) (target_place m) ≡ note_of t x m
      go true q = absurd (false≢true (sym q))
      go false q = unfold if◌then◌or_else◌ in get_or-set_same x (target_place m) (note_of t x m) 0 (omega (arith, room))

  one_noted : Noted t x m → Noted t next (suc m)
  one_noted a j l e r =
      ⊎_elim
      (λ q. subst (λ (z : ℕ). target next z ≡ note_of t x z) (sym q) (noted_here (subst (λ (z : ℕ). thing_words * (z + 1) ≤ length x) q room) (subst (λ (z : ℕ). is_flow x z ≡ false) q was)))
      (λ h. retarget_at (note_of t) m (target_place j) x (λ q. omega (arith, q, h)) ∙ a j h was room)
      (eq-or-lt_of_le (le_of_suc-le-suc l))
      ∙ sym (note_same t next x j (place_next j))
    where
      room : thing_words * (j + 1) ≤ length x
      room = subst (λ (z : ℕ). thing_words * (j + 1) ≤ z) (retarget_length (note_of t) m x) r

      was : is_flow x j ≡ false
      was = sym (flow_same next x j (sort_next j)) ∙ e

some_noted : (t w : List ℕ) (m : ℕ) → Noted t (iter (retargeted (note_of t)) w m) m
unfolding iter
some_noted t w zero = λ j l. absurd (not-suc-le-zero l)
some_noted t w (suc m) = one_noted t (iter (retargeted (note_of t)) w m) m (some_noted t w m)

-- THE WHOLE: noted, linked and bared again
module _ (t w : List ℕ) (n : ℕ) (free : all (is_free w) n ≡ true) where
  all_noted : Noted t (noted t n w) n
  unfolding noted
  all_noted = some_noted t w n

  linked_bare : bared n (links t n (noted t n w)) ≡ links t n w
  unfolding bared links noted
  linked_bare = links-bared t n n n (iter (retargeted (note_of t)) w n) ∙ ap (λ (x : List ℕ). iter (linked t n) x n) (bared-noted (note_of t) n w ∙ bared_free w n (all_at (is_free w) n free))

  pub linked_back : (x y z : List ℕ) → x ≡ noted t n w → (NotedIf true t x n → y ≡ links t n x) → z ≡ bared n y → z ≡ links t n w
  linked_back x y z e f g = g ∙ ap (bared n) (f (λ b. subst (λ (u : List ℕ). Noted t u n) (sym e) all_noted) ∙ ap (links t n) e) ∙ linked_bare
