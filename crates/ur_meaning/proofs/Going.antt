-- How the pieces of the code stand for expressions while the table grows.
use Rattle.std.proofs.Common.{◌≡◌, ◌≢◌, ℕ, zero, suc, List, [], ◌∷◌, ◌++◌, length, take, drop, Some, Result, Ok, Err, refl, sym, ap, subst, ◌∙◌, arith, IfOk, IsErrAnd}
use Rattle.std.specs.Prelude.{slice_get, ◌<◌, get_or}
use Rattle.std.proofs.lemmas.List.{take_all}
use Rattle.std.proofs.lemmas.Option.{slice_get-get_or}
use Rattle.std.specs.List.{AllZip}
use Rattle.ur_terms.specs.declared.term.Term.{Term}
use Rattle.ur_meaning.specs.Form.{Language, parts}
use Rattle.ur_meaning.specs.Unfolds as u
use Rattle.ur_meaning.specs.Unfolds.{UnfoldAll, stuck_term}
use Rattle.ur_meaning.specs.declared.halt.Halt.{Halt}
use Rattle.ur_meaning.specs.declared.halt.Halt.TheVariants as halt
use Rattle.ur_meaning.specs.declared.head.Head.TheVariants as head
use Rattle.ur_meaning.specs.declared.head.Opened.{Opened}
use Rattle.ur_meaning.specs.Entering.{Enters, EntersStuck}
use Rattle.ur_meaning.specs.Building.{IsBuilt}
use Rattle.ur_meaning.specs.Making.{State, state, Made, Halted, OneMade, Pushed, IsMemory}
use Rattle.ur_meaning.specs.Opening as o
use Rattle.ur_meaning.specs.Opening.{Formed, Stops, Shown, Lasts}
use Rattle.ur_meaning.proofs.Making.{grown_not, then_one, then_halts, halts_before, node_made, node_halts, no_node, no_stuck, stuck_made, grown_sames, full_sames, large_sames, made_sames, halted_sames, sames_last, grown_and, made_after, full_after, halted_after}
use Rattle.ur_meaning.proofs.Building.{Node, heads_parts, heads_own, heads_nothing, heads_same, node_of, deep_within}

-- ---- lists

pub zip_at : {A B : Type 0} (P : A → B → Type 0) (xs : List A) (ys : List B) (j : ℕ) (x : A) → AllZip P xs ys → slice_get xs j ≡ Some x
    → (y : B) × (slice_get ys j ≡ Some y) × P x y
zip_at P [] ys j x h e = absurd (cc)
zip_at P (a ∷ xs) [] j x h e = absurd h
zip_at P (a ∷ xs) (b ∷ ys) zero x h e = (b, refl, subst (λ z. P z b) (inside a x e) h.0)
  where
    inside : {A : Type 0} (a x : A) → Some a ≡ Some x → a ≡ x
    inside a x e = cc
zip_at P (a ∷ xs) (b ∷ ys) (suc j) x h e = zip_at P xs ys j x h.1 e

pub element : {A : Type 0} (xs ys : List A) (j : ℕ) (x : A) → ys ≡ xs → j < length ys → x ≡ get_or ys j x → slice_get xs j ≡ Some x
element xs ys j x e h g = subst (λ l. slice_get l j ≡ Some x) e (slice_get-get_or ys j x h ∙ ap Some (sym g))

pub zip_length : {A B : Type 0} (P : A → B → Type 0) (xs : List A) (ys : List B) → AllZip P xs ys → length xs ≡ length ys
zip_length P [] [] h = refl
zip_length P [] (b ∷ ys) h = absurd h
zip_length P (a ∷ xs) [] h = absurd h
zip_length P (a ∷ xs) (b ∷ ys) h = ap suc (zip_length P xs ys h.1)

pub zip_map : {A B : Type 0} (P Q : A → B → Type 0) (xs : List A) (ys : List B) → ((x : A) (y : B) → P x y → Q x y) → AllZip P xs ys → AllZip Q xs ys
zip_map P Q [] [] f h = tt
zip_map P Q [] (b ∷ ys) f h = absurd h
zip_map P Q (a ∷ xs) [] f h = absurd h
zip_map P Q (a ∷ xs) (b ∷ ys) f h = (f a b h.0, zip_map P Q xs ys f h.1)

take_more : {A : Type 0} (xs : List A) (j : ℕ) (x : A) → slice_get xs j ≡ Some x → take (suc j) xs ≡ take j xs ++ x ∷ []
take_more [] j x e = absurd (cc)
take_more (a ∷ xs) zero x e = cc
take_more (a ∷ xs) (suc j) x e = ap (λ l. a ∷ l) (take_more xs j x e)

cut_at : {A : Type 0} (xs : List A) (j : ℕ) (x : A) → slice_get xs j ≡ Some x → (take j xs ++ x ∷ []) ++ drop (suc j) xs ≡ xs
cut_at [] j x e = absurd (cc)
cut_at (a ∷ xs) zero x e = cc
cut_at (a ∷ xs) (suc j) x e = ap (λ l. a ∷ l) (cut_at xs j x e)

-- ---- what lasts

module _ {S P I K : Type 0} (language : S → Language I K) (instances : S → List K) (stands : S → P → I → Type 0) (sound : S → Type 0) where
  pub lasts_so : (s : S) → Lasts language instances stands sound s s
  lasts_so s = record { same = refl; stays = λ q i h. h; keeps = λ h. h; once = λ h d. d }

  pub lasts_then : (a b c : S) → Lasts language instances stands sound a b → Lasts language instances stands sound b c → Lasts language instances stands sound a c
  lasts_then a b c g h = record { same = h.same ∙ g.same; stays = λ q i w. h.stays q i (g.stays q i w); keeps = λ w. h.keeps (g.keeps w); once = λ w d. h.once (g.keeps w) (g.once w d) }

-- ---- a list of expressions

module _ {I K : Type 0} (p q : Language I K) (same : q ≡ p) where
  pub terms_step : (is : List I) (place : ℕ) (i : I) (start mid new : State K) (levels : ℕ) (made more : List Term) → slice_get is place ≡ Some i
      → Made p start levels (take place is) mid made → (a : Term) × (more ≡ made ++ a ∷ []) × Made q mid levels (i ∷ []) new (a ∷ []) → Made p start levels (take (suc place) is) new more
  terms_step is place i start mid new levels made more e m g =
      let one : Made p mid levels (i ∷ []) new (g.0 ∷ []) = subst (λ p. Made p mid levels (i ∷ []) new (g.0 ∷ [])) same g.2 in
      subst (λ l. Made p start levels l new more) (sym (take_more is place i e))
      (subst (λ l. Made p start levels (take place is ++ i ∷ []) new l) (sym g.1) (then_one p start mid new levels (take place is) made i g.0 m one))

  pub terms_halt : (large : K → Type 0) (named : ℕ → K → Type 0) (is : List I) (place : ℕ) (i : I) (start mid new : State K) (levels : ℕ) (made more : List Term) (h : Halt) → slice_get is place ≡ Some i
      → Made p start levels (take place is) mid made → Pushed q large named mid levels i new made more (Err h) → Halted p large named start levels is new h
  terms_halt large named is place i start mid new levels made more h e m g =
      subst (λ l. Halted p large named start levels l new h) (cut_at is place i e)
      (halts_before p large named start new levels (take place is ++ i ∷ []) (drop (suc place) is) h
      (then_halts p large named start mid new levels (take place is) made i h m (subst (λ p. Halted p large named mid levels (i ∷ []) new h) same g)))

pub terms_all : {I K : Type 0} (p : Language I K) (is : List I) (place : ℕ) (start new : State K) (levels : ℕ) (made : List Term) → place ≡ length is
    → Made p start levels (take place is) new made → Made p start levels is new made
terms_all p is place start new levels made e m = subst (λ l. Made p start levels l new made) (take_all place is (omega (arith, e))) m

-- ---- forms that are the same

module _ {P I K : Type 0} (p : Language I K) (stands : P → I → Type 0) (before new : List K) where
  pub shown_first : (i : I) (x : Opened P) → Formed p stands before new i x → Shown p stands before new i x
  shown_first i x f = record { item = i; sames = o.itself i; items = f.items; parts = f.parts; heads = f.heads; grown = f.grown }

  pub shown_next : (q : Language I K) → q ≡ p → (then : P → I → Type 0) (last : List K) (i : I) (x y : Opened P) → Shown p stands before new i x → x.head ≡ head.Same
      → ((j : I) → AllZip stands x.parts (j ∷ []) → Formed q then new last j y) → Shown p then before last i y
  shown_next q e then last i x y s same go =
      let one = heads_same new x.head s.items (p.form s.item) s.heads same in
      let f : Formed p then new last one.part y = subst (λ p. Formed p then new last one.part y) e (go one.part (subst (AllZip stands x.parts) one.items_are s.parts)) in
      let sames = sames_last p i s.item one.part s.sames one.form_is in
      record {
        item = one.part;
        sames = sames;
        items = f.items;
        parts = f.parts;
        heads = f.heads;
        grown = grown_and p (i ∷ []) before new last s.grown (grown_sames p i one.part new last sames f.grown);
      }

  pub shown_stops : (large : K → Type 0) (named : ℕ → K → Type 0) (q : Language I K) → q ≡ p → (last : List K) (i : I) (x : Opened P) (h : Halt) → Shown p stands before new i x → x.head ≡ head.Same
      → ((j : I) → AllZip stands x.parts (j ∷ []) → Stops q large named new last j h) → Stops p large named before last i h
  shown_stops large named q e last i x h s same go =
      let one = heads_same new x.head s.items (p.form s.item) s.heads same in
      let f : Stops p large named new last one.part h = subst (λ p. Stops p large named new last one.part h) e (go one.part (subst (AllZip stands x.parts) one.items_are s.parts)) in
      by h one.part (sames_last p i s.item one.part s.sames one.form_is) f
    where
      by : (h : Halt) (j : I) → o.Sames p i j → Stops p large named new last j h → Stops p large named before last i h
      by halt.Nodes j m f = absurd f
      by halt.Nesting j m f = absurd f
      by (halt.Instances name) j m f = full_after p named i before new last name s.grown (full_sames p named i j new last name m f)
      by halt.Large j m f = large_sames p large i j m f
      by halt.Memory j m f = tt

-- ---- a node

module _ {P I K : Type 0} (p : Language I K) (large : K → Type 0) (named : ℕ → K → Type 0) (stands : P → I → Type 0) (before called : List K) (i : I) (x : Opened P) (s : Shown p stands before called i x)
    (room levels : ℕ) where
  up : (new : State K) (h : Halt) → Halted p large named (state called room) levels (s.item ∷ []) new h → Halted p large named (state before room) levels (i ∷ []) new h
  up new h g = halted_after p large named i before called room levels new h s.grown (halted_sames p large named i s.item (state called room) new levels h s.sames g)

  raised : (new : State K) (a : Term) → Made p (state called room) levels (s.item ∷ []) new (a ∷ []) → Made p (state before room) levels (i ∷ []) new (a ∷ [])
  raised new a m = made_after p i before called room levels new a s.grown (made_sames p i s.item (state called room) new levels a s.sames m)

  parts_are : parts (p.form s.item) ≡ s.items
  parts_are = heads_parts called x.head s.items (p.form s.item) s.heads

  module _ (no : x.head ≢ head.Same) (some : x.head ≢ head.Nothing) where
    pub not_entered : (rest : ℕ) (new : State K) (h : Halt) → Enters room levels rest (Err h) → Halted p large named (state before room) levels (i ∷ []) new h
    not_entered rest new h enter =
        let own = heads_own called x.head s.items (p.form s.item) s.heads no some in
        up new h (no_node p large named s.item new called room rest levels h own.0 own.1 enter)

    module _ (rest within : ℕ) (enter : Enters room levels rest (Ok within)) where
      pub parts_halt : (new : State K) (h : Halt) → Halted p large named (state called rest) within s.items new h → Halted p large named (state before room) levels (i ∷ []) new h
      parts_halt new h g =
          let own = heads_own called x.head s.items (p.form s.item) s.heads no some in
          up new h (node_halts p large named s.item called room rest levels within new h own.0 own.1 enter
          (subst (λ l. Halted p large named (state called rest) within l new h) (sym parts_are) g))

      node_whole : (new : State K) (ts : List Term) (a : Term) → Made p (state called rest) within s.items new ts → IsBuilt x.head ts a
          → Made p (state before room) levels (i ∷ []) new (a ∷ [])
      node_whole new ts a m b =
          let grows : new.called ≡ called ++ m.grown.more = m.grown.grows in
          let node : Node p new.called (p.form s.item) ts a = subst (λ l. Node p l (p.form s.item) ts a) (sym grows)
          (node_of p called m.grown.more x.head s.items (p.form s.item) ts a s.heads (subst (λ l. UnfoldAll p l s.items ts) grows m.unfolds) b) in
          raised new a (node_made p s.item called room rest levels within new ts a enter
          (subst (λ l. Made p (state called rest) within l new ts) (sym parts_are) m) node.becomes node.count (deep_within within ts a node.deep))

      pub built : (new : State K) (ts : List Term) (result : Result Term Halt) → Made p (state called rest) within s.items new ts → IfOk result (IsBuilt x.head ts)
          → IsMemory result → OneMade p large named (state before room) levels i new result
      built new ts (Ok a) m b w = node_whole new ts a m b
      built new ts (Err halt.Memory) m b w = tt
      built new ts (Err halt.Nodes) m b w = absurd w
      built new ts (Err halt.Nesting) m b w = absurd w
      built new ts (Err (halt.Instances name)) m b w = absurd w
      built new ts (Err halt.Large) m b w = absurd w

  module _ (nothing : x.head ≡ head.Nothing) where
    pub stuck_halts : (rest : ℕ) (new : State K) (h : Halt) → EntersStuck room levels rest (Err h) → Halted p large named (state before room) levels (i ∷ []) new h
    stuck_halts rest new h enter = up new h (no_stuck p large named s.item new called room rest levels h (heads_nothing called x.head s.items (p.form s.item) s.heads nothing) enter)

    pub stuck_built : (rest : ℕ) (result : Result Term Halt) → EntersStuck room levels rest (Ok tt) → IfOk result (λ a. a ≡ stuck_term) → IsMemory result
        → OneMade p large named (state before room) levels i (state called rest) result
    stuck_built rest (Ok a) enter b w =
        raised (state called rest) a (stuck_made p s.item called room rest levels a (heads_nothing called x.head s.items (p.form s.item) s.heads nothing) enter b)
    stuck_built rest (Err halt.Memory) enter b w = tt
    stuck_built rest (Err halt.Nodes) enter b w = absurd w
    stuck_built rest (Err halt.Nesting) enter b w = absurd w
    stuck_built rest (Err (halt.Instances name)) enter b w = absurd w
    stuck_built rest (Err halt.Large) enter b w = absurd w

-- ---- exits

pub exit : {A : Type 0} (P : Result A Halt → Type 0) (r : Result A Halt) (h : Halt) → IsErrAnd r (λ e. e ≡ h) → P (Err h) → P r
exit P (Ok y) h e k = absurd e
exit P (Err g) h e k = subst (λ z. P (Err z)) (sym e) k

pub first_stands : {P I : Type 0} (stands : P → I → Type 0) (parts : List P) (i : I) (q : P) → AllZip stands parts (i ∷ []) → slice_get parts 0 ≡ Some q → stands q i
first_stands stands [] i q h e = absurd h
first_stands stands (x ∷ []) i q h e = subst (λ z. stands z i) (inside x q e) h.0
  where
    inside : {A : Type 0} (a x : A) → Some a ≡ Some x → a ≡ x
    inside a x e = cc
first_stands stands (x ∷ y ∷ parts) i q h e = absurd h.1

-- why a form is not given is why the term is not
pub stops_halt : {I K : Type 0} (p : Language I K) (large : K → Type 0) (named : ℕ → K → Type 0) (i : I) (before : List K) (room levels : ℕ) (new : State K) (h : Halt) → Stops p large named before new.called i h
    → Halted p large named (state before room) levels (i ∷ []) new h
stops_halt p large named i before room levels new halt.Nodes g = absurd g
stops_halt p large named i before room levels new halt.Nesting g = absurd g
stops_halt p large named i before room levels new (halt.Instances name) g = g
stops_halt p large named i before room levels new halt.Large g = g
stops_halt p large named i before room levels new halt.Memory g = tt

-- the same of a language that is the same
pub of_same : {P I K : Type 0} (p q : Language I K) (large : K → Type 0) (named : ℕ → K → Type 0) (stands : P → I → Type 0) (before called : List K) (i : I) (x : Opened P) (room levels : ℕ) (new : State K) (r : Result Term Halt)
    → q ≡ p → Shown p stands before called i x → (Shown q stands before called i x → OneMade q large named (state before room) levels i new r) → OneMade p large named (state before room) levels i new r
of_same p q large named stands before called i x room levels new r e s go =
    subst (λ p. OneMade p large named (state before room) levels i new r) e (go (subst (λ p. Shown p stands before called i x) (sym e) s))

-- ---- the loops

-- The terms that are made so far, of the expressions that so many pieces stand for.
pub record SoFar {S P I K : Type 0} (language : S → Language I K) (instances : S → List K) (stands : S → P → I → Type 0) (sound : S → Type 0) (first : S) (room levels : ℕ) (pieces : List P)
    (place : ℕ) (now : S) (left : ℕ) (made : List Term) : Type 0 where
  pub lasts : Lasts language instances stands sound first now
  pub terms : (is : List I) → AllZip (stands first) pieces is → Made (language first) (state (instances first) room) levels (take place is) (state (instances now) left) made

-- What an expression is the same as, so far.
pub record Seen {S P I K : Type 0} (language : S → Language I K) (instances : S → List K) (stands : S → P → I → Type 0) (sound : S → Type 0) (first : S) (piece : P) (now : S) (opened : Opened P) : Type 0 where
  pub lasts : Lasts language instances stands sound first now
  pub shown : (i : I) → stands first piece i → Shown (language first) (stands now) (instances first) (instances now) i opened

module _ {S P I K : Type 0} (language : S → Language I K) (instances : S → List K) (stands : S → P → I → Type 0) (sound : S → Type 0) where
  pub none_made : (first : S) (room levels : ℕ) (pieces : List P) → SoFar language instances stands sound first room levels pieces 0 first room []
  none_made first room levels pieces = record {
    lasts = lasts_so language instances stands sound first;
    terms = λ is h. record { grown = grown_not (language first) [] (instances first); unfolds = u.no_item; nodes = omega arith; within = tt };
  }

  pub more_made : (first mid new : S) (room levels left rest place : ℕ) (pieces : List P) (q : P) (made more : List Term)
      → SoFar language instances stands sound first room levels pieces place mid left made → slice_get pieces place ≡ Some q → Lasts language instances stands sound mid new
      → ((i : I) → stands mid q i → (a : Term) × (more ≡ made ++ a ∷ []) × Made (language mid) (state (instances mid) left) levels (i ∷ []) (state (instances new) rest) (a ∷ []))
      → SoFar language instances stands sound first room levels pieces (suc place) new rest more
  more_made first mid new room levels left rest place pieces q made more so e lasts go = record {
    lasts = lasts_then language instances stands sound first mid new so.lasts lasts;
    terms = λ is h.
        let at = zip_at (stands first) pieces is place q h e in
        terms_step (language first) (language mid) so.lasts.same is place at.0 (state (instances first) room) (state (instances mid) left) (state (instances new) rest) levels made more at.1
        (so.terms is h) (go at.0 (so.lasts.stays q at.0 at.2));
  }

  pub one_halts : (large : K → Type 0) (named : ℕ → K → Type 0) (first mid new : S) (room levels left rest place : ℕ) (pieces : List P) (q : P) (made more : List Term) (h : Halt)
      → SoFar language instances stands sound first room levels pieces place mid left made → slice_get pieces place ≡ Some q
      → ((i : I) → stands mid q i → Pushed (language mid) large named (state (instances mid) left) levels i (state (instances new) rest) made more (Err h))
      → (is : List I) → AllZip (stands first) pieces is → Halted (language first) large named (state (instances first) room) levels is (state (instances new) rest) h
  one_halts large named first mid new room levels left rest place pieces q made more h so e go is zip =
      let at = zip_at (stands first) pieces is place q zip e in
      terms_halt (language first) (language mid) so.lasts.same large named is place at.0 (state (instances first) room) (state (instances mid) left) (state (instances new) rest) levels made more h at.1
      (so.terms is zip) (go at.0 (so.lasts.stays q at.0 at.2))

  pub all_made : (first new : S) (room levels rest place : ℕ) (pieces : List P) (made : List Term) → SoFar language instances stands sound first room levels pieces place new rest made
      → place ≡ length pieces → (is : List I) → AllZip (stands first) pieces is → Made (language first) (state (instances first) room) levels is (state (instances new) rest) made
  all_made first new room levels rest place pieces made so e is zip =
      terms_all (language first) is place (state (instances first) room) (state (instances new) rest) levels made (e ∙ zip_length (stands first) pieces is zip) (so.terms is zip)

  pub seen_first : (first now : S) (piece : P) (x : Opened P) → Lasts language instances stands sound first now
      → ((i : I) → stands first piece i → Formed (language first) (stands now) (instances first) (instances now) i x) → Seen language instances stands sound first piece now x
  seen_first first now piece x lasts go =
      record { lasts = lasts; shown = λ i h. shown_first (language first) (stands now) (instances first) (instances now) i x (go i h) }

  pub seen_more : (first mid new : S) (piece : P) (x y : Opened P) → Seen language instances stands sound first piece mid x → x.head ≡ head.Same → Lasts language instances stands sound mid new
      → ((j : I) → AllZip (stands mid) x.parts (j ∷ []) → Formed (language mid) (stands new) (instances mid) (instances new) j y) → Seen language instances stands sound first piece new y
  seen_more first mid new piece x y s e lasts go = record {
    lasts = lasts_then language instances stands sound first mid new s.lasts lasts;
    shown = λ i h. shown_next (language first) (stands mid) (instances first) (instances mid) (language mid) s.lasts.same (stands new) (instances new) i x y (s.shown i h) e go;
  }

  pub seen_stops : (large : K → Type 0) (named : ℕ → K → Type 0) (first mid new : S) (piece : P) (x : Opened P) (h : Halt) → Seen language instances stands sound first piece mid x → x.head ≡ head.Same
      → ((j : I) → AllZip (stands mid) x.parts (j ∷ []) → Stops (language mid) large named (instances mid) (instances new) j h)
      → (i : I) → stands first piece i → Stops (language first) large named (instances first) (instances new) i h
  seen_stops large named first mid new piece x h s e go i at =
      shown_stops (language first) (stands mid) (instances first) (instances mid) large named (language mid) s.lasts.same (instances new) i x h (s.shown i at) e go
