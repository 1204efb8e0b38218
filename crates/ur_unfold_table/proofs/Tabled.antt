-- What the table of forms promises.
use Rattle.std.proofs.Common.{◌≡◌, ℕ, Bool, List, [], ◌∷◌, map, Option, None, Some, Result, Ok, Err, refl, sym, ap, ap₂, subst, ◌∙◌, append-nil}
use Rattle.ur_tree.specs.declared.typed.Typed.{Typed}
use Rattle.ur_tree.specs.declared.exp.Exp.{Exp}
use Rattle.ur_tree.specs.declared.exp.Exp.TheVariants as x
use Rattle.ur_tree.specs.declared.exp.Markup.{Markup}
use Rattle.ur_tree.specs.declared.closed.Static.{Static}
use Rattle.ur_tree.specs.declared.closed.Instance.{Instance}
use Rattle.ur_meaning.specs.Form.{Language, callee, parts}
use Rattle.ur_meaning.specs.Instances as n
use Rattle.ur_meaning.specs.Instances.{Among, Calls, Different}
use Rattle.ur_source.specs.Reading.{Cons}
use Rattle.ur_source.specs.Items as i
use Rattle.ur_source.specs.Items.{Scope, Item, form_of}
use Rattle.ur_source.specs.Source.{source_of}
use Rattle.ur_meaning.specs.declared.head.Opened.{Opened}
use Rattle.ur_meaning.specs.declared.halt.Halt.{Halt}
use Rattle.ur_meaning.specs.declared.halt.Halt.TheVariants as halt
use Rattle.ur_meaning.specs.Making.{CalledIn, Grown}
use Rattle.ur_meaning.specs.Opening.{OpensTo, Embodies, Lasts}
use Rattle.ur_meaning.proofs.Going.{zip_map}
use Rattle.ur_unfold_static.specs.Held.{Held}
use Rattle.ur_unfold_static.specs.Scopes.{IsAt}
use Rattle.ur_unfold_pieces.specs.declared.piece.Piece.{Piece}
use Rattle.ur_unfold_pieces.specs.declared.opening.Opening.{Opening}
use Rattle.ur_unfold_pieces.specs.declared.opening.Key.{Key}
use Rattle.ur_unfold_pieces.specs.Told.{exp, part, bool, closed, folding, asking, told}
use Rattle.ur_unfold_pieces.specs.Keys.{instance_of, IsOf, nothing, last}
use Rattle.ur_unfold_pieces.specs.Standing.{ScopeIs, StepsLeft, SaysFor, StandsFor, IsWhole, instances_in, language}
use Rattle.ur_unfold_pieces.specs.Moving.{Stays, Moves}
use Rattle.ur_unfold_pieces.specs.Forming.{AddedFor, Opens, FormedAs, OpensItem, OpensExp, CallsBy, itself, in_part, IsTooLarge}
use Rattle.ur_unfold_pieces.proofs.Staying.{says_stays, moves_of, instances_stay}
use Rattle.ur_unfold_pieces.proofs.PiecesNumbered.{instances_differ}
use Rattle.ur_unfold_table.specs.declared.table.Source.{Source}

abbrev pub Stands : Opening → Piece → Item → Type 0
Stands s q i = IsWhole s × StandsFor s q i

form_is : (app : Typed) (i : Item) → (language app).form i ≡ form_of (source_of app) i
unfolding language
form_is app i = refl

module _ (p : Language Item Instance) (i : Item) where
  called : (k : Instance) → callee (p.form i) ≡ Some k → CalledIn p (i ∷ []) k
  called k e = record { item = i; among = n.first i []; calls = n.here i k e }

  grown_none : (old new : List Instance) → new ≡ old → Grown p (i ∷ []) old new
  grown_none old new e = record { more = []; grows = e ∙ sym (append-nil old); reasons = tt }

  grown_by : (c : Option Instance) → callee (p.form i) ≡ c → (old new : List Instance) → AddedFor c old new → Grown p (i ∷ []) old new
  grown_by None e old new a = grown_none old new a
  grown_by (Some k) e old new (nothing same) = grown_none old new same
  grown_by (Some k) e old new (last more new_one) = record { more = k ∷ []; grows = more; reasons = (called k e, tt) }

calls_by : (app : Typed) (i : Item) (k : Instance) → CallsBy (source_of app) (form_of (source_of app) i) k → Calls (language app) i k
calls_by app i k (itself e) = n.here i k (ap callee (form_is app i) ∙ e)
calls_by app i k (in_part j among e) = n.within i j k (subst (λ f. Among (parts f) j) (sym (form_is app i)) among) (n.here j k (ap callee (form_is app j) ∙ e))

-- the form of the table is that of the source
pub opens_to : (old new : Opening) (i : Item) (r : Result (Opened Piece) Halt) → IsWhole new → FormedAs old new (form_of (source_of old.typed.now) i) r
    → OpensTo (language old.typed.now) IsTooLarge IsOf (Stands new) (instances_in old) (instances_in new) i r
opens_to old new i (Ok o) whole f =
    let p = language old.typed.now in
    let g : Opens old new (p.form i) o = subst (λ form. Opens old new form o) (sym (form_is old.typed.now i)) f in
    record {
      items = g.items;
      parts = zip_map (StandsFor new) (Stands new) o.parts g.items (λ q j h. (whole, h)) g.parts;
      heads = g.heads;
      grown = grown_by p i (callee (p.form i)) refl (instances_in old) (instances_in new) g.added;
    }
opens_to old new i (Err halt.Nodes) whole f = absurd f
opens_to old new i (Err halt.Nesting) whole f = absurd f
opens_to old new i (Err (halt.Instances function)) whole f =
    let p = language old.typed.now in
    record {
      grown = grown_none p i (instances_in old) (instances_in new) f.same;
      full = f.full;
      one = f.called;
      called = called p i f.called (ap callee (form_is old.typed.now i) ∙ f.is_called);
      unnumbered = f.unnumbered;
      is_named = f.is_of;
    }
opens_to old new i (Err halt.Large) whole f = record {
  instance = f.called;
  called = record { item = i; among = n.first i []; calls = calls_by old.typed.now i f.called f.calls };
  is_large = f.large;
}
opens_to old new i (Err halt.Memory) whole f = tt

-- ---- what lasts

abbrev LastsTable : Source → Source → Type 0
LastsTable = Lasts (λ s. language s.of.typed.now) (λ s. instances_in s.of) (λ s. Stands s.of) (λ s. IsWhole s.of)

pub form_lasts : (old new : Source) → Moves old.of new.of → Different new.of.closing.cons → Different new.of.closing.statics → LastsTable old new
form_lasts old new m dc ds = record {
  same = ap language m.widens.typed;
  stays = λ q i h. (m.whole h.0, says_stays old.of new.of m.widens (told q) i h.1);
  keeps = m.whole;
  once = λ whole d. instances_differ new.of.closing dc ds new.of.instances.keys (m.whole whole).keys (m.whole whole).once;
}

pub body_lasts : (old new : Source) → Stays old.of new.of → LastsTable old new
body_lasts old new st =
    let m = moves_of old.of new.of st in
    record {
      same = ap language m.widens.typed;
      stays = λ q i h. (m.whole h.0, says_stays old.of new.of m.widens (told q) i h.1);
      keeps = m.whole;
      once = λ whole d. subst (λ (l : List Instance). Different l) (sym (instances_stay old.of new.of st whole)) d;
    }

pub same_instances : (old new : Opening) → new.closing ≡ old.closing → new.instances.keys ≡ old.instances.keys → instances_in new ≡ instances_in old
same_instances old new e f = ap₂ (λ (held : Held) (keys : List Key). map (instance_of held) keys) e f

-- what stands for a body stands in a sound table
pub embodied : (p : Language Item Instance) (s : Opening) (k : Instance) (r : Result Piece Halt) → IsWhole s → Embodies p (StandsFor s) k r → Embodies p (Stands s) k r
embodied p s k (Ok q) whole h = (h.0, h.1, (whole, h.2))
embodied p s k (Err halt.Nodes) whole h = absurd h
embodied p s k (Err halt.Nesting) whole h = absurd h
embodied p s k (Err (halt.Instances function)) whole h = absurd h
embodied p s k (Err halt.Large) whole h = absurd h
embodied p s k (Err halt.Memory) whole h = tt

-- ---- pieces

module _ (old new : Opening) (q : Piece) (r : Result (Opened Piece) Halt) where
  pub exp_piece : (n : ℕ) (e : Exp) → told q ≡ exp n e → OpensExp old new n e r → (item : Item) → StandsFor old q item → OpensItem old new item r
  exp_piece n e is go item h =
      let h : SaysFor old (exp n e) item = subst (λ t. SaysFor old t item) is h in
      subst (λ item. OpensItem old new item r) (sym h.2) (go h.0 h.1)

  pub part_piece : (n : ℕ) (m : Markup) → told q ≡ part n m → ((scope : Scope) → ScopeIs old n scope → OpensItem old new (i.part scope m) r) → (item : Item) → StandsFor old q item → OpensItem old new item r
  part_piece n m is go item h =
      let h : SaysFor old (part n m) item = subst (λ t. SaysFor old t item) is h in
      subst (λ item. OpensItem old new item r) (sym h.2) (go h.0 h.1)

  pub bool_piece : (n : ℕ) (b : Bool) → told q ≡ bool n b → ((scope : Scope) → OpensItem old new (i.exp scope (x.Bool b)) r) → (item : Item) → StandsFor old q item → OpensItem old new item r
  bool_piece n b is go item h =
      let h : SaysFor old (bool n b) item = subst (λ t. SaysFor old t item) is h in
      subst (λ item. OpensItem old new item r) (sym h.2) (go h.0)

  pub closed_piece : (j : ℕ) → told q ≡ closed j → ((c : Static) → IsAt old.closing.statics j c → OpensItem old new (i.closed c) r) → (item : Item) → StandsFor old q item → OpensItem old new item r
  closed_piece j is go item h =
      let h : SaysFor old (closed j) item = subst (λ t. SaysFor old t item) is h in
      subst (λ item. OpensItem old new item r) (sym h.2) (go h.0 h.1)

  pub folding_piece : (n : ℕ) (step start : Exp) (steps left : ℕ) → told q ≡ folding n step start steps left
      → ((scope : Scope) (ks : List Cons) → ScopeIs old n scope → StepsLeft old steps left ks → OpensItem old new (i.folding scope step start ks) r) → (item : Item) → StandsFor old q item → OpensItem old new item r
  folding_piece n step start steps left is go item h =
      let h : SaysFor old (folding n step start steps left) item = subst (λ t. SaysFor old t item) is h in
      subst (λ item. OpensItem old new item r) (sym h.4) (go h.0 h.1 h.2 h.3)

  pub asking_piece : (n query : ℕ) (args : List Exp) → told q ≡ asking n query args → ((scope : Scope) → ScopeIs old n scope → OpensItem old new (i.asking scope query args) r) → (item : Item) → StandsFor old q item → OpensItem old new item r
  asking_piece n query args is go item h =
      let h : SaysFor old (asking n query args) item = subst (λ t. SaysFor old t item) is h in
      subst (λ item. OpensItem old new item r) (sym h.2) (go h.0 h.1)
