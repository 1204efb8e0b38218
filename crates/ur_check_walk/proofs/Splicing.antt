-- Text in a literal of XML, and what is spliced into it.
use Rattle.std.proofs.Common.{◌≡◌, refl, ap, sym, ◌∙◌, subst, ℕ, Bool, true, false, true≢false, List, [], ◌∷◌, Option, Some, None, Result, IfOk}
use Rattle.std.specs.Prelude.{if◌then◌else◌, option_map, option_and_then, slice_get, codes}
use Rattle.ur_base.specs.Stopping.{IfRefused}
use Rattle.ur_base.specs.declared.refusal.Refusal.{Refusal}
use Rattle.ur_base.specs.declared.refusal.Stop.{Stop}
use Rattle.ur_syntax.specs.declared.exp.Exp.{Exp}
use Rattle.ur_syntax.specs.declared.exp.ExpForm.{ExpForm}
use Rattle.ur_syntax.specs.declared.xml.XmlForm.{XmlForm}
use Rattle.ur_syntax.specs.declared.xml.XmlForm.TheVariants as form
use Rattle.ur_rows.specs.declared.normal.NormalType.{NormalType}
use Rattle.ur_rows.specs.declared.normal.NormalType.TheVariants as ty
use Rattle.ur_rows.specs.declared.normal.Part.{Part as RowPart}
use Rattle.ur_tree.specs.declared.exp.Markup.TheVariants as markup
use Rattle.ur_tree.specs.Places.{Place, holds_text, holds_fields, place_type, fields_found}
use Rattle.ur_tree.specs.Scalars.{is_basic}
use Rattle.ur_tree.specs.Text.{type_text}
use Rattle.ur_xmltype.specs.Faults.{IsMisplaced, place_text}
use Rattle.ur_xmltype.specs.Literal.{is_kept, text_at, Asked, decides, asks, splice_at}
use Rattle.ur_typed_rules.specs.Lacking.{lacks_type}
use Rattle.ur_typed_rules.specs.Scopes.{World, Scope, Mode, finds, wants}
use Rattle.ur_typed_rules.specs.Faults.{misplaced}
use Rattle.ur_typed_rules.specs.Rules.{if_so}
use Rattle.ur_typed.specs.Rules.{Sites, Out, Walk, then_}
use Rattle.ur_typed.specs.Markups.{Literal, Marked, Splice, no_marks, one_mark, if_kept, text_out, shown_out, field_splice_out, place_splice_out, splice_by, splice_out}
use Rattle.ur_typed.specs.Walking.{typed, splices_walk}
use Rattle.ur_typed.specs.Parts.{in_shown, in_field_splice, in_splice, form_mode}
use Rattle.ur_typed.specs.Faults.{no_text, no_shown, not_basic, no_splice, no_fields_found}
use Rattle.ur_typed.specs.Causes.{HasFault}
use Rattle.ur_typed.proofs.Literals.{a_splice, splice_at as splice-walked}
use Rattle.ur_check_scopes.specs.declared.around.Around.{Around}
use Rattle.ur_check_scopes.specs.Views.{Stands}
use Rattle.ur_check_scopes.proofs.Exits.{ok-along, refused-along}
use Rattle.ur_check_rules.specs.declared.out.Out.{Out as HeldOut}
use Rattle.ur_check_rules.specs.declared.out.Sites.{Sites as HeldSites}
use Rattle.ur_check_rules.specs.Views.{sites_in, out_in}
use Rattle.ur_check_forms.specs.declared.marked.Marked.{Marked as HeldMarked}
use Rattle.ur_check_forms.specs.Views.{marked_with}
use Rattle.ur_check_walk.specs.Promises.{GivesTyped, Tells}
use Rattle.ur_check_walk.specs.declared.markup.Within.{Within}
use Rattle.ur_check_walk.specs.Listed.{exp_row}
use Rattle.ur_check_walk.specs.Marking.{literal_in, PartHasFault, breaks_part, in_part, GivesPart, TellsPart}
use Rattle.ur_check_walk.specs.Splicing.{asked_mode, asked_out, AskedFault, in_splice as in_asked, no_fields, GivesAsked, TellsAsked}
use Rattle.ur_check_walk.proofs.Parting.{is-same, antiquote-at}

abbrev names_at : Around → List (List ℕ)
names_at a = a.world.now.datatype_names

-- ---- text

no-place : (k h : Bool) → (if k then (if h then Some true else None) else Some false) ≡ None → (k ≡ true) × (h ≡ false)
no-place true true e = cc
no-place true false e = (refl, refl)
no-place false h e = cc

pub text-arm : (a : Around) (st : HeldSites) (x : Within) (p : Place) (f : XmlForm) (t : List ℕ) (r : Result HeldMarked Stop) → f ≡ form.Text t → IfOk r (λ d. (su : Sites) → text_out p t su ≡ Some (marked_with d su)) → IfOk r (λ d. GivesPart a st x p f d st)
text-arm a st x p f t r e h = ok-along r (λ d k. subst (λ z. GivesPart a st x p z d st) (sym e) (λ w s stands. k (sites_in st))) h

pub text-arm-tells : (a : Around) (st : HeldSites) (x : Within) (p : Place) (f : XmlForm) (t : List ℕ) (r : Result HeldMarked Stop) → f ≡ form.Text t → IfRefused r (λ q. (text_at p t ≡ None) × IsMisplaced q (codes "text") p) → IfRefused r (TellsPart a st x p f)
text-arm-tells a st x p f t r e h = refused-along r (λ q k. subst (λ z. TellsPart a st x p z q) (sym e) (λ w s stands.
    let n = no-place (is_kept p t) (holds_text p) k.0 in breaks_part (misplaced (codes "text") (place_text p), no_text n.0 n.1, k.1))) h

kept-so : (q r k : Bool) → (if q then (if r then Some true else None) else Some false) ≡ Some k → (q ≡ k) × (k ≡ true → r ≡ true)
kept-so true true k e = (is-same true k e, λ i. refl)
kept-so true false k e = cc
kept-so false r k e = (is-same false k e, λ i. absurd (true≢false (sym (is-same false k e ∙ i))))

pub text-stays : (p : Place) (t : List ℕ) (k : Bool) (d : HeldMarked) → text_at p t ≡ Some k → k ≡ true → ((st : Sites) → one_mark [] [] (markup.Text t) st ≡ Some (marked_with d st)) → (st : Sites) → text_out p t st ≡ Some (marked_with d st)
text-stays p t k d e h g st = let n = kept-so (is_kept p t) (holds_text p) k e in
    ap (λ b. if_kept b p t st) (n.0 ∙ h) ∙ ap (λ b. if_so b (one_mark [] [] (markup.Text t) st)) (n.1 h) ∙ g st

pub text-drops : (p : Place) (t : List ℕ) (k : Bool) (d : HeldMarked) → text_at p t ≡ Some k → k ≡ false → ((st : Sites) → marked_with d st ≡ no_marks st) → (st : Sites) → text_out p t st ≡ Some (marked_with d st)
text-drops p t k d e h g st = let n = kept-so (is_kept p t) (holds_text p) k e in ap (λ b. if_kept b p t st) (n.0 ∙ h) ∙ ap Some (sym (g st))

-- ---- what is shown

shown-walked : (w : World) (s : Scope) (x : Within) (n : ℕ) (y : Exp) → slice_get x.splices.now n ≡ Some y → slice_get (literal_in w s x).splices n ≡ Some (a_splice w y.form)
shown-walked w s x n y e = splice-walked w _ (exp_row x.splices.now).1 n y.form (antiquote-at x.splices.now n y e)

pub shown-given : (a : Around) (st0 st1 : HeldSites) (x : Within) (p : Place) (n : ℕ) (y : Exp) (o : HeldOut) (d : HeldMarked) → holds_text p ≡ true → slice_get x.splices.now n ≡ Some y → GivesTyped a st0 y.form finds o st1 → is_basic o.of ≡ true →
    ((st : Sites) → one_mark [] [] (markup.Shown o.exp) st ≡ Some (marked_with d st)) → GivesPart a st0 x p (form.Show n) d st1
shown-given a st0 st1 x p n y o d h e g b made = λ w s stands.
    let l : Literal = literal_in w s x in
    ap (option_and_then (shown_out l p (sites_in st0))) (shown-walked w s x n y e)
    ∙ ap (λ k. if_so k (then_ (typed w y.form s (sites_in st0) finds) (λ z. if_so (is_basic z.of) (one_mark [] [] (markup.Shown z.exp) z.sites)))) h
    ∙ ap (option_and_then (λ (z : Out). if_so (is_basic z.of) (one_mark [] [] (markup.Shown z.exp) z.sites))) (g w s stands)
    ∙ ap (λ k. if_so k (one_mark [] [] (markup.Shown o.exp) (sites_in st1))) b
    ∙ made (sites_in st1)

pub shows-nothing : (a : Around) (st : HeldSites) (x : Within) (p : Place) (n : ℕ) (r : Refusal) → (holds_text p ≡ false) × IsMisplaced r (codes "text") p → TellsPart a st x p (form.Show n) r
shows-nothing a st x p n r h = λ w s stands. breaks_part (misplaced (codes "text") (place_text p), no_shown h.0, h.1)

pub within-shown : (a : Around) (st : HeldSites) (x : Within) (p : Place) (n : ℕ) (y : Exp) → slice_get x.splices.now n ≡ Some y → (r : Refusal) → Tells a st y.form finds r → TellsPart a st x p (form.Show n) r
within-shown a st x p n y e r h = λ w s stands. in_part (in_shown (antiquote-at x.splices.now n y e)) (h w s stands)

pub shows-other : (a : Around) (st0 st1 : HeldSites) (x : Within) (p : Place) (n : ℕ) (y : Exp) (o : HeldOut) → slice_get x.splices.now n ≡ Some y → GivesTyped a st0 y.form finds o st1 → (r : Refusal) →
    (is_basic o.of ≡ false) × IsMisplaced r (type_text (names_at a) o.of) p → TellsPart a st0 x p (form.Show n) r
shows-other a st0 st1 x p n y o e g r h = λ w s stands. breaks_part (misplaced (type_text (names_at a) o.of) (place_text p), not_basic (shown-walked w s x n y e) (g w s stands) h.0, h.1)

-- ---- splices

-- what is asked of a splice at a place that holds fields or not, where a type is found of it or not, and the place has this type
data IsAsked (fields lacks : Bool) (t : Option NormalType) : Asked → Type 0 where
  by_found : fields ≡ true → lacks ≡ false → IsAsked fields lacks t decides
  as_body : fields ≡ true → lacks ≡ true → IsAsked fields lacks t (asks ty.Xbody)
  by_place : (u : NormalType) → fields ≡ false → t ≡ Some u → IsAsked fields lacks t (asks u)

abbrev asked_by : Bool → Bool → Option NormalType → Option Asked
asked_by fields lacks t = if fields then Some (if lacks then asks ty.Xbody else decides) else option_map asks t

is-asked : (fields lacks : Bool) (t : Option NormalType) (k : Asked) → asked_by fields lacks t ≡ Some k → IsAsked fields lacks t k
is-asked true true t k e = subst (λ z. IsAsked true true t z) (is-same (asks ty.Xbody) k e) (as_body refl refl)
is-asked true false t k e = subst (λ z. IsAsked true false t z) (is-same decides k e) (by_found refl refl)
is-asked false lacks (Some u) k e = subst (λ z. IsAsked false lacks (Some u) z) (is-same (asks u) k e) (by_place u refl refl)
is-asked false lacks None k e = absurd (none k e)
  where
    none : (k : Asked) → None ≡ Some k → ⊥
    none k e = cc

none-asked : (fields lacks : Bool) (t : Option NormalType) → asked_by fields lacks t ≡ None → (fields ≡ false) × (t ≡ None)
none-asked true lacks t e = cc
none-asked false lacks None e = (refl, refl)
none-asked false lacks (Some u) e = cc

asked-made : (l : Literal) (p : Place) (st : Sites) (z : Splice) (k : Asked) → IsAsked (holds_fields p) z.lacks (place_type p) k → splice_out l p st z ≡ asked_out l.scope st z.walk k
asked-made l p st z _ (by_found e f) = ap (splice_by l p st z) e ∙ ap (field_splice_out l st z.walk) f
asked-made l p st z _ (as_body e f) = ap (splice_by l p st z) e ∙ ap (field_splice_out l st z.walk) f
asked-made l p st z _ (by_place u e f) = ap (splice_by l p st z) e ∙ ap (option_and_then (place_splice_out l st z.walk)) f

asked-fault : (names : List (List ℕ)) (w : World) (s : Scope) (x : Within) (p : Place) (n : ℕ) (y : Exp) (st : Sites) (r : Refusal) (k : Asked) → slice_get x.splices.now n ≡ Some y → IsAsked (holds_fields p) (lacks_type y.form) (place_type p) k →
    AskedFault names w s p y.form st r k → PartHasFault names w s x p (form.Splice n) st r
asked-fault names w s x p n y st r _ e (by_found f l) (in_asked h) =
    in_part (in_field_splice f (antiquote-at x.splices.now n y e)) (subst (λ b. HasFault names w s st y.form (form_mode b) r) (sym l) h)
asked-fault names w s x p n y st r _ e (as_body f l) (in_asked h) =
    in_part (in_field_splice f (antiquote-at x.splices.now n y e)) (subst (λ b. HasFault names w s st y.form (form_mode b) r) (sym l) h)
asked-fault names w s x p n y st r _ e (by_place u f t) (in_asked h) = in_part (in_splice f t (antiquote-at x.splices.now n y e)) h
asked-fault names w s x p n y st r _ e (by_found f l) (no_fields o g t m) =
    breaks_part (misplaced (type_text names o.of) (place_text p), no_fields_found f (shown-walked w s x n y e) l g t, m)

asked-at : (p : Place) (b c : Bool) (k : Asked) → b ≡ c → splice_at p b ≡ Some k → IsAsked (holds_fields p) c (place_type p) k
asked-at p b c k e h = is-asked (holds_fields p) c (place_type p) k (ap (splice_at p) (sym e) ∙ h)

pub splice-given : (a : Around) (st0 st1 : HeldSites) (x : Within) (p : Place) (n : ℕ) (y : Exp) (b : Bool) (k : Asked) (d : HeldMarked) → slice_get x.splices.now n ≡ Some y → b ≡ lacks_type y.form → splice_at p b ≡ Some k → GivesAsked a st0 y.form k d st1 →
    GivesPart a st0 x p (form.Splice n) d st1
splice-given a st0 st1 x p n y b k d e l h g = λ w s stands.
    ap (option_and_then (splice_out (literal_in w s x) p (sites_in st0))) (shown-walked w s x n y e)
    ∙ asked-made (literal_in w s x) p (sites_in st0) (a_splice w y.form) k (asked-at p b (lacks_type y.form) k l h)
    ∙ g w s stands

pub splices-nothing : (a : Around) (st : HeldSites) (x : Within) (p : Place) (n : ℕ) (b : Bool) (r : Refusal) → (splice_at p b ≡ None) × IsMisplaced r (codes "{e}") p → TellsPart a st x p (form.Splice n) r
splices-nothing a st x p n b r h = λ w s stands. let e = none-asked (holds_fields p) b (place_type p) h.0 in breaks_part (misplaced (codes "{e}") (place_text p), no_splice e.0 e.1, h.1)

pub within-splice : (a : Around) (st : HeldSites) (x : Within) (p : Place) (n : ℕ) (y : Exp) (b : Bool) (k : Asked) → slice_get x.splices.now n ≡ Some y → b ≡ lacks_type y.form → splice_at p b ≡ Some k → (r : Refusal) → TellsAsked a st p y.form k r →
    TellsPart a st x p (form.Splice n) r
within-splice a st x p n y b k e l h r g = λ w s stands. asked-fault (names_at a) w s x p n y (sites_in st) r k e (asked-at p b (lacks_type y.form) k l h) (g w s stands)

-- ---- of which a type is asked, or is found

pub asked-arm : (a : Around) (before after : HeldSites) (x : ExpForm) (k j : Asked) (r : Result HeldMarked Stop) → k ≡ j → IfOk r (λ d. GivesAsked a before x j d after) → IfOk r (λ d. GivesAsked a before x k d after)
asked-arm a before after x k j r e h = ok-along r (λ d g. subst (λ z. GivesAsked a before x z d after) (sym e) g) h

pub asked-arm-tells : (a : Around) (before : HeldSites) (p : Place) (x : ExpForm) (k j : Asked) (r : Result HeldMarked Stop) → k ≡ j → IfRefused r (TellsAsked a before p x j) → IfRefused r (TellsAsked a before p x k)
asked-arm-tells a before p x k j r e h = refused-along r (λ q g. subst (λ z. TellsAsked a before p x z q) (sym e) g) h

pub found-given : (a : Around) (st0 st1 : HeldSites) (x : ExpForm) (o : HeldOut) (d : HeldMarked) → GivesTyped a st0 x finds o st1 → ((st : Sites) → option_and_then (λ r. one_mark r [] (markup.Splice o.exp) st) (fields_found o.of) ≡ Some (marked_with d st)) → GivesAsked a st0 x decides d st1
found-given a st0 st1 x o d g made = λ w s stands.
    ap (option_and_then (λ (z : Out). option_and_then (λ (r : List RowPart). one_mark r [] (markup.Splice z.exp) z.sites) (fields_found z.of))) (g w s stands) ∙ made (sites_in st1)

pub found-none : (a : Around) (st0 st1 : HeldSites) (p : Place) (x : ExpForm) (o : HeldOut) → GivesTyped a st0 x finds o st1 → (r : Refusal) → (fields_found o.of ≡ None) × IsMisplaced r (type_text (names_at a) o.of) p → TellsAsked a st0 p x decides r
found-none a st0 st1 p x o g r h = λ w s stands. no_fields (out_in o st1) (g w s stands) h.0 h.1

pub typed-given : (a : Around) (st0 st1 : HeldSites) (x : ExpForm) (t : NormalType) (o : HeldOut) (none : List RowPart) (d : HeldMarked) → GivesTyped a st0 x (wants t) o st1 → none ≡ [] → ((st : Sites) → one_mark none [] (markup.Splice o.exp) st ≡ Some (marked_with d st)) →
    GivesAsked a st0 x (asks t) d st1
typed-given a st0 st1 x t o none d g e made = λ w s stands.
    ap (option_and_then (λ (z : Out). one_mark [] [] (markup.Splice z.exp) z.sites)) (g w s stands) ∙ ap (λ z. one_mark z [] (markup.Splice o.exp) (sites_in st1)) (sym e) ∙ made (sites_in st1)

pub within-asked : (a : Around) (st : HeldSites) (p : Place) (x : ExpForm) (k : Asked) (r : Refusal) → Tells a st x (asked_mode k) r → TellsAsked a st p x k r
within-asked a st p x k r h = λ w s stands. in_asked (h w s stands)
