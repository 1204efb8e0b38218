-- From heads whose parts are told to forms that call nothing.
use Rattle.std.proofs.Common.{◌≡◌, ℕ, List, [], ◌∷◌, Option, Some, None, Result, Ok, Err, IsErrAnd, refl, sym, subst, ◌∙◌}
use Rattle.std.specs.List.{AllZip}
use Rattle.ur_terms.specs.declared.term.Op.{Op}
use Rattle.ur_meaning.specs.Form.{strict_form, same_form, no_form, callee}
use Rattle.ur_tree.specs.declared.closed.Static.{Static}
use Rattle.ur_tree.specs.declared.typed.Typed.{Typed}
use Rattle.ur_source.specs.Items as i
use Rattle.ur_source.specs.Source.{source_of}
use Rattle.ur_source.specs.Items.{Item, ItemForm, strict_with, form_with, if_static}
use Rattle.ur_unfold_static.specs.Scopes.{MayBeAt}
use Rattle.ur_meaning.specs.declared.head.Head.{Head}
use Rattle.ur_meaning.specs.declared.head.Head.TheVariants as head
use Rattle.ur_meaning.specs.declared.head.Opened.{Opened}
use Rattle.ur_meaning.specs.declared.halt.Halt.{Halt}
use Rattle.ur_meaning.specs.declared.halt.Halt.TheVariants as halt
use Rattle.ur_meaning.specs.Heads as h
use Rattle.ur_meaning.specs.Heads.{Heads}
use Rattle.ur_unfold_pieces.specs.declared.piece.Piece.{Piece}
use Rattle.ur_unfold_pieces.specs.declared.opening.Opening.{Opening}
use Rattle.ur_unfold_pieces.specs.Keys.{Gives}
use Rattle.ur_unfold_pieces.specs.Told.{Told, closed}
use Rattle.ur_unfold_pieces.specs.Standing.{SaysFor, instances_in}
use Rattle.ur_unfold_pieces.specs.Forming.{FormedAs, AddedFor, IsLarge}
use Rattle.ur_unfold_table.specs.Opened.{IsOpened}
use Rattle.ur_unfold_table.specs.Having.{OpenedBy, OpenedWith}
use Rattle.ur_unfold_table.proofs.Telling.{told_zip}

-- ---- what may be there

pub err_opened : (r : Result (Opened Piece) Halt) (e : Halt) → IsErrAnd r (λ h. h ≡ e) → e ≡ halt.Memory → (x : Head) (ts : List Told) → IsOpened x ts r
err_opened (Ok o) e q is x ts = absurd q
err_opened (Err h) e q is x ts = q ∙ is

pub not_given : {A : Type 0} (P : A → Type 0) (r : Result A Halt) (e : Halt) → IsErrAnd r (λ h. h ≡ e) → e ≡ halt.Memory → Gives P r
not_given P (Ok x) e q is = absurd q
not_given P (Err h) e q is = q ∙ is

module _ {A : Type 0} (a : Option A) (go : A → Result (Opened Piece) Halt → Type 0) (r : Result (Opened Piece) Halt) where
  pub opened_none : a ≡ None → IsOpened head.Nothing [] r → OpenedBy a go r
  opened_none e h = subst (λ a. OpenedBy a go r) (sym e) h

  pub opened_some : (y : A) → a ≡ Some y → go y r → OpenedBy a go r
  opened_some y e h = subst (λ a. OpenedBy a go r) (sym e) h

pub opened_err : {A : Type 0} (a : Option A) (go : A → Result (Opened Piece) Halt → Type 0) (r : Result (Opened Piece) Halt) → IsOpened head.Nothing [] r → ((y : A) → go y r) → OpenedBy a go r
opened_err None go r h k = h
opened_err (Some y) go r h k = k y

-- ---- forms

module _ (old new : Opening) where
  pub no_memory : (form : ItemForm) (e : Halt) → e ≡ halt.Memory → FormedAs old new form (Err e)
  no_memory form e is = subst (λ h. FormedAs old new form (Err h)) (sym is) tt

  pub exit : (form : ItemForm) (r : Result (Opened Piece) Halt) (e : Halt) → IsErrAnd r (λ h. h ≡ e) → e ≡ halt.Memory → FormedAs old new form r
  exit form (Ok o) e q is = absurd q
  exit form (Err h) e q is = no_memory form h (q ∙ is)

  module _ (stay : instances_in new ≡ instances_in old) where
    -- the head with what is said for the items
    pub opened_formed : (h : Head) (ts : List Told) (items : List Item) (form : ItemForm) (r : Result (Opened Piece) Halt) → IsOpened h ts r → AllZip (SaysFor new) ts items
        → Heads (instances_in new) h items form → callee form ≡ None → FormedAs old new form r
    opened_formed h ts items form (Ok o) opened says heads calls = record {
      items = items;
      parts = told_zip new o.parts ts items opened.1 says;
      heads = subst (λ h. Heads (instances_in new) h items form) (sym opened.0) heads;
      added = subst (λ k. AddedFor k (instances_in old) (instances_in new)) (sym calls) stay;
    }
    opened_formed h ts items form (Err e) opened says heads calls = no_memory form e opened

    pub strict_formed : (o : Op) (ts : List Told) (items : List Item) (r : Result (Opened Piece) Halt) → IsOpened (head.Strict o) ts r → AllZip (SaysFor new) ts items → FormedAs old new (strict_form o items) r
    strict_formed o ts items r opened says = opened_formed (head.Strict o) ts items (strict_form o items) r opened says (h.strict o items) refl

    pub none_formed : (r : Result (Opened Piece) Halt) → IsOpened head.Nothing [] r → FormedAs old new no_form r
    none_formed r opened = opened_formed head.Nothing [] [] no_form r opened tt h.nothing refl

    pub same_formed : (t : Told) (item : Item) (r : Result (Opened Piece) Halt) → IsOpened head.Same (t ∷ []) r → SaysFor new t item → FormedAs old new (same_form item) r
    same_formed t item r opened says = opened_formed head.Same (t ∷ []) (item ∷ []) (same_form item) r opened (says, tt) (h.same item) refl

    pub with_formed : {A : Type 0} (a : Option A) (o : A → Op) (ts : List Told) (items : List Item) (r : Result (Opened Piece) Halt) → OpenedWith a o ts r → AllZip (SaysFor new) ts items
        → FormedAs old new (strict_with a o items) r
    with_formed None o ts items r opened says = none_formed r opened
    with_formed (Some y) o ts items r opened says = strict_formed (o y) ts items r opened says

    pub by_formed : {A B : Type 0} (a : Option A) (b : A → Option B) (o : A → B → Op) (ts : List Told) (items : List Item) (r : Result (Opened Piece) Halt)
        → OpenedBy a (λ y. OpenedWith (b y) (o y) ts) r → AllZip (SaysFor new) ts items → FormedAs old new (form_with a (λ y. strict_with (b y) (o y) items)) r
    by_formed None b o ts items r opened says = none_formed r opened
    by_formed (Some y) b o ts items r opened says = with_formed (b y) (o y) ts items r opened says

    -- what is static is the same as its closed static expression
    pub static_formed : (j : ℕ) (c : Option Static) (other : ItemForm) (r : Result (Opened Piece) Halt) → MayBeAt new.closing.statics (Some j) c → IsOpened head.Same (closed j ∷ []) r
        → FormedAs old new (if_static c other) r
    static_formed j c other r at opened =
        subst (λ c. FormedAs old new (if_static c other) r) (sym at.2) (same_formed (closed j) (i.closed at.0) r opened (at.0, at.1, refl))

-- ---- the table had changed before

pub formed_after : (old mid new : Opening) (form : ItemForm) (r : Result (Opened Piece) Halt) → mid.typed.now ≡ old.typed.now → instances_in mid ≡ instances_in old → FormedAs mid new form r → FormedAs old new form r
formed_after old mid new form (Ok o) t e g = record {
  items = g.items;
  parts = g.parts;
  heads = g.heads;
  added = subst (λ l. AddedFor (callee form) l (instances_in new)) e g.added;
}
formed_after old mid new form (Err halt.Nodes) t e g = absurd g
formed_after old mid new form (Err halt.Nesting) t e g = absurd g
formed_after old mid new form (Err (halt.Instances function)) t e g =
    record { same = g.same ∙ e; full = g.full; called = g.called; is_called = g.is_called; unnumbered = g.unnumbered; is_of = g.is_of }
formed_after old mid new form (Err halt.Large) t e g = subst (λ (app : Typed). IsLarge (source_of app) form) t g
formed_after old mid new form (Err halt.Memory) t e g = tt
