-- Parts of a literal of XML, one after the other.
use Rattle.std.proofs.Common.{◌≡◌, refl, ap, sym, ◌∙◌, subst, ℕ, zero, suc, ◌+◌, ◌<◌, ◌≤◌, List, [], ◌∷◌, length, drop, get_or, drop_of_length-le, Option, Some, None, Result, IfOk}
use Rattle.std.specs.Prelude.{option_map, option_and_then, slice_get}
use Rattle.ur_base.specs.Stopping.{IfRefused}
use Rattle.ur_base.specs.declared.refusal.Refusal.{Refusal}
use Rattle.ur_base.specs.declared.refusal.Stop.{Stop}
use Rattle.ur_syntax.specs.declared.exp.Exp.{Exp}
use Rattle.ur_syntax.specs.declared.xml.XmlPart.{XmlPart}
use Rattle.ur_syntax.specs.declared.xml.XmlForm.{XmlForm}
use Rattle.ur_tree.specs.Places.{Place}
use Rattle.ur_xmltype.specs.Literal.{row_of_parts}
use Rattle.ur_typed_rules.specs.Scopes.{World, Scope}
use Rattle.ur_typed.specs.Rules.{Sites}
use Rattle.ur_typed.specs.Markups.{Marked, no_marks, and_marks, parts_out, part_out}
use Rattle.ur_typed.specs.Parts.{in_first, in_later}
use Rattle.ur_typed.specs.Faults.{breaks_first, breaks_later}
use Rattle.ur_typed.specs.Resolves.{IsAntiquote, first}
use Rattle.ur_typed.proofs.Shapes.{next_of}
use Rattle.ur_check_scopes.specs.declared.around.Around.{Around}
use Rattle.ur_check_scopes.specs.Views.{Stands}
use Rattle.ur_check_scopes.proofs.Exits.{ok-along, refused-along}
use Rattle.ur_check_scopes.proofs.Loops.{drop-here, drop-none}
use Rattle.ur_check_rules.specs.declared.out.Sites.{Sites as HeldSites}
use Rattle.ur_check_rules.specs.Views.{sites_in}
use Rattle.ur_check_forms.specs.declared.marked.Marked.{Marked as HeldMarked}
use Rattle.ur_check_forms.specs.Views.{marked_with}
use Rattle.ur_check_walk.specs.declared.markup.Within.{Within}
use Rattle.ur_check_walk.specs.Listed.{exp_row}
use Rattle.ur_check_walk.specs.Marking.{literal_in, PartHasFault, breaks_part, in_part, PartsHaveFault, breaks_parts, in_parts, GivesParts, TellsParts, GivesPart, TellsPart}
use Rattle.ur_check_walk.proofs.Steps.{stands-there}

abbrev names_at : Around → List (List ℕ)
names_at a = a.world.now.datatype_names

-- ---- the expressions of a literal, by number

pub is-same : {A : Type 0} (x y : A) → Some x ≡ Some y → x ≡ y
is-same x y e = cc

nothing-there : {A : Type 0} (x : A) → None ≡ Some x → ⊥
nothing-there x e = cc

pub antiquote-at : (xs : List Exp) (n : ℕ) (y : Exp) → slice_get xs n ≡ Some y → IsAntiquote _ (exp_row xs).1 n y.form
antiquote-at [] n y e = absurd (nothing-there y e)
antiquote-at (x ∷ xs) zero y e = subst (λ (z : Exp). IsAntiquote _ (exp_row (x ∷ xs)).1 0 z.form) (is-same x y e) first
antiquote-at (x ∷ xs) (suc n) y e = next_of _ x.span x.form y.form (exp_row xs).1 n (antiquote-at xs n y e)

-- ---- parts one after the other

-- the parts so far: what is left gives the whole behind them, and a fault of it is one of the whole
pub record Parted (a : Around) (x : Within) (p : Place) (whole left : List XmlPart) (st0 st1 : HeldSites) (held : HeldMarked) : Type 0 where
  pub given : (w : World) (s : Scope) → Stands a w s → parts_out (literal_in w s x) (row_of_parts whole).1 p (sites_in st0) ≡ option_map (and_marks (marked_with held (sites_in st1))) (parts_out (literal_in w s x) (row_of_parts left).1 p (sites_in st1))
  pub leads : (w : World) (s : Scope) (r : Refusal) → Stands a w s → PartsHaveFault (names_at a) w s x p _ (row_of_parts left).1 (sites_in st1) r → PartsHaveFault (names_at a) w s x p _ (row_of_parts whole).1 (sites_in st0) r

front-map : (m : Marked) (o : Option Marked) → ((d : Marked) → and_marks m d ≡ d) → o ≡ option_map (and_marks m) o
front-map m None h = refl
front-map m (Some d) h = ap Some (sym (h d))

parted-all : (a : Around) (x : Within) (p : Place) (whole : List XmlPart) (st : HeldSites) (held : HeldMarked) → ((su : Sites) (d : Marked) → and_marks (marked_with held su) d ≡ d) → Parted a x p whole whole st st held
parted-all a x p whole st held h = record {
  given = λ w s stands. front-map (marked_with held (sites_in st)) (parts_out (literal_in w s x) (row_of_parts whole).1 p (sites_in st)) (h (sites_in st));
  leads = λ w s r stands g. g;
}

pub parted-start : (a : Around) (x : Within) (p : Place) (whole : List XmlPart) (st : HeldSites) (held : HeldMarked) → ((su : Sites) (d : Marked) → and_marks (marked_with held su) d ≡ d) → Parted a x p whole (drop 0 whole) st st held
parted-start a x p whole st held h = subst (λ z. Parted a x p whole z st st held) (sym (drop-none whole)) (parted-all a x p whole st held h)

joined-map : (k f m : Marked) (o : Option Marked) → ((d : Marked) → and_marks m d ≡ and_marks k (and_marks f d)) → option_map (and_marks k) (option_map (and_marks f) o) ≡ option_map (and_marks m) o
joined-map k f m None h = refl
joined-map k f m (Some d) h = ap Some (sym (h d))

later-fault : (names : List (List ℕ)) (w : World) (s : Scope) (x : Within) (p : Place) (st : Sites) (b : XmlPart) (rest : List XmlPart) (d : Marked) (r : Refusal) → part_out (literal_in w s x) b.form p st ≡ Some d →
    PartsHaveFault names w s x p _ (row_of_parts rest).1 d.sites r → PartsHaveFault names w s x p _ (row_of_parts (b ∷ rest)).1 st r
later-fault names w s x p st b rest d r h (breaks_parts f) = breaks_parts (f.0, breaks_later h f.1, f.2)
later-fault names w s x p st b rest d r h (in_parts f g) = in_parts (in_later h f) g

this-fault : (names : List (List ℕ)) (w : World) (s : Scope) (x : Within) (p : Place) (st : Sites) (b : XmlPart) (rest : List XmlPart) (r : Refusal) → PartHasFault names w s x p b.form st r → PartsHaveFault names w s x p _ (row_of_parts (b ∷ rest)).1 st r
this-fault names w s x p st b rest r (breaks_part f) = breaks_parts (f.0, breaks_first f.1, f.2)
this-fault names w s x p st b rest r (in_part f g) = in_parts (in_first f) g

parted-past : (a : Around) (x : Within) (p : Place) (whole : List XmlPart) (b : XmlPart) (rest : List XmlPart) (st0 st1 st2 : HeldSites) (held one more : HeldMarked) → GivesPart a st1 x p b.form one st2 →
    ((between after : Sites) (d : Marked) → and_marks (marked_with more after) d ≡ and_marks (marked_with held between) (and_marks (marked_with one after) d)) → Parted a x p whole (b ∷ rest) st0 st1 held → Parted a x p whole rest st0 st2 more
parted-past a x p whole b rest st0 st1 st2 held one more h g l = record {
  given = λ w s stands.
      l.given w s stands
      ∙ ap (λ z. option_map (and_marks (marked_with held (sites_in st1))) (option_and_then (λ k. option_map (and_marks k) (parts_out (literal_in w s x) (row_of_parts rest).1 p k.sites)) z)) (h w s stands)
      ∙ joined-map (marked_with held (sites_in st1)) (marked_with one (sites_in st2)) (marked_with more (sites_in st2)) (parts_out (literal_in w s x) (row_of_parts rest).1 p (sites_in st2)) (g (sites_in st1) (sites_in st2));
  leads = λ w s r stands f. l.leads w s r stands (later-fault (names_at a) w s x p (sites_in st1) b rest (marked_with one (sites_in st2)) r (h w s stands) f);
}

pub parted-next : (a : Around) (x : Within) (p : Place) (whole : List XmlPart) (i : ℕ) (b : XmlPart) (st0 st1 st2 : HeldSites) (held one more : HeldMarked) → i < length whole → b ≡ get_or whole i b → GivesPart a st1 x p b.form one st2 →
    ((between after : Sites) (d : Marked) → and_marks (marked_with more after) d ≡ and_marks (marked_with held between) (and_marks (marked_with one after) d)) → Parted a x p whole (drop i whole) st0 st1 held → Parted a x p whole (drop (i + 1) whole) st0 st2 more
parted-next a x p whole i b st0 st1 st2 held one more lt at h g l = parted-past a x p whole b (drop (i + 1) whole) st0 st1 st2 held one more h g (subst (λ z. Parted a x p whole z st0 st1 held) (drop-here whole i b lt at) l)

pub parted-broken : (a : Around) (x : Within) (p : Place) (whole : List XmlPart) (i : ℕ) (b : XmlPart) (st0 st1 : HeldSites) (held : HeldMarked) → i < length whole → b ≡ get_or whole i b → Parted a x p whole (drop i whole) st0 st1 held →
    (r : Refusal) → TellsPart a st1 x p b.form r → TellsParts a st0 x p whole r
parted-broken a x p whole i b st0 st1 held lt at l r h = λ w s stands.
    let here : Parted a x p whole (b ∷ drop (i + 1) whole) st0 st1 held = subst (λ z. Parted a x p whole z st0 st1 held) (drop-here whole i b lt at) l in
    here.leads w s r stands (this-fault (names_at a) w s x p (sites_in st1) b (drop (i + 1) whole) r (h w s stands))

pub parted-end : (a : Around) (x : Within) (p : Place) (whole : List XmlPart) (i : ℕ) (st0 st1 : HeldSites) (held made : HeldMarked) → length whole ≤ i → ((st : Sites) → and_marks (marked_with held st) (no_marks st) ≡ marked_with made st) →
    Parted a x p whole (drop i whole) st0 st1 held → GivesParts a st0 x p whole made st1
parted-end a x p whole i st0 st1 held made e g l = λ w s stands.
    let here : Parted a x p whole [] st0 st1 held = subst (λ z. Parted a x p whole z st0 st1 held) (drop_of_length-le whole e) l in
    here.given w s stands ∙ ap Some (g (sites_in st1))

-- ---- the forms of a part

pub part-arm : (a : Around) (before after : HeldSites) (x : Within) (p : Place) (f g : XmlForm) (r : Result HeldMarked Stop) → f ≡ g → IfOk r (λ d. GivesPart a before x p g d after) → IfOk r (λ d. GivesPart a before x p f d after)
part-arm a before after x p f g r e h = ok-along r (λ d k w s stands. ap (λ z. part_out (literal_in w s x) z p (sites_in before)) e ∙ k w s stands) h

pub part-arm-tells : (a : Around) (before : HeldSites) (x : Within) (p : Place) (f g : XmlForm) (r : Result HeldMarked Stop) → f ≡ g → IfRefused r (TellsPart a before x p g) → IfRefused r (TellsPart a before x p f)
part-arm-tells a before x p f g r e h = refused-along r (λ q k w s stands. subst (λ z. PartHasFault (names_at a) w s x p z (sites_in before) q) (sym e) (k w s stands)) h

-- deeper in the same place
pub part-arm-there : (a i : Around) (before after : HeldSites) (x : Within) (p : Place) (f g : XmlForm) (r : Result HeldMarked Stop) → f ≡ g → i.world ≡ a.world → i.scope ≡ a.scope → IfOk r (λ d. GivesPart i before x p g d after) → IfOk r (λ d. GivesPart a before x p f d after)
part-arm-there a i before after x p f g r e ew es h = ok-along r (λ d k w s stands. ap (λ z. part_out (literal_in w s x) z p (sites_in before)) e ∙ k w s (stands-there a i w s ew es stands)) h

pub part-arm-there-tells : (a i : Around) (before : HeldSites) (x : Within) (p : Place) (f g : XmlForm) (r : Result HeldMarked Stop) → f ≡ g → i.world ≡ a.world → i.scope ≡ a.scope → IfRefused r (TellsPart i before x p g) → IfRefused r (TellsPart a before x p f)
part-arm-there-tells a i before x p f g r e ew es h = refused-along r (λ q k w s stands.
    subst (λ y. PartHasFault y.now.datatype_names w s x p f (sites_in before) q) ew (subst (λ z. PartHasFault (names_at i) w s x p z (sites_in before) q) (sym e) (k w s (stands-there a i w s ew es stands)))) h
