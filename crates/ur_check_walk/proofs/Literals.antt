-- Literals of XML.
use Rattle.std.proofs.Common.{◌≡◌, refl, ap, ap₂, sym, ◌∙◌, subst, ℕ, true, List, [], ◌∷◌, Option, Some, None, Err}
use Rattle.std.specs.Prelude.{option_and_then, codes, is_none}
use Rattle.ur_base.specs.Shape.{Shape, count}
use Rattle.ur_base.specs.Stopping.{IfRefused}
use Rattle.ur_base.specs.declared.refusal.Refusal.{Refusal}
use Rattle.ur_base.specs.declared.refusal.Stop.{Stop}
use Rattle.ur_base.specs.declared.refusal.Stop.TheVariants as stop
use Rattle.ur_syntax.specs.declared.exp.Exp.{Exp}
use Rattle.ur_syntax.specs.declared.exp.ExpForm.{ExpForm, Row_of-Exp, more_of-Exp}
use Rattle.ur_syntax.specs.declared.exp.ExpForm.TheVariants as e
use Rattle.ur_syntax.specs.declared.exp.ExpForm.TheBlock as T
use Rattle.ur_syntax.specs.declared.xml.Xml.{Xml}
use Rattle.ur_syntax.specs.declared.xml.XmlPart.{XmlPart}
use Rattle.ur_rows.specs.declared.normal.NormalType.{NormalType}
use Rattle.ur_rows.specs.declared.normal.Part.{Part}
use Rattle.ur_tree.specs.declared.exp.Exp.TheVariants as exp
use Rattle.ur_tree.specs.declared.exp.Exp.TheBlock as R
use Rattle.ur_tree.specs.declared.exp.Exp.TheBlock.{more_of-Markup}
use Rattle.ur_tree.specs.declared.exp.Markup.{Markup}
use Rattle.ur_tree.specs.Places.{Place, Sort, sort_of, place_of, fields}
use Rattle.ur_tree.specs.Text.{type_text}
use Rattle.ur_xmltype.specs.Faults.{IsBadFrame}
use Rattle.ur_xmltype.specs.Literal.{row_of_parts, sort_of_literal, literal_sort, fault_of_sort, is_framed, sort_type}
use Rattle.ur_xmltype.proofs.Equations.{items-row_of_parts}
use Rattle.ur_typed_rules.specs.Scopes.{World, Scope, Mode, type_of_mode}
use Rattle.ur_typed_rules.specs.Arguments.{BreaksFields, fields_met}
use Rattle.ur_typed_rules.specs.Faults.{Fault, TellsType as TellsFault, as_refused, mismatch}
use Rattle.ur_typed_rules.specs.Rules.{if_so}
use Rattle.ur_typed.specs.Rules.{Sites, Out, gives}
use Rattle.ur_typed.specs.Markups.{Literal, Markups, Marked, parts_out, sort_fits, sorted_out}
use Rattle.ur_typed.specs.Walking.{walk}
use Rattle.ur_typed.specs.Parts.{in_xml}
use Rattle.ur_typed.specs.Causes.{HasFault, Breaks, no_sort, in_literal, no_frame, literal_meets}
use Rattle.ur_check_scopes.specs.declared.around.Around.{Around}
use Rattle.ur_check_scopes.specs.Views.{Stands, StopIs, Refuses, env_in, mode_of}
use Rattle.ur_check_rules.specs.declared.out.Out.{Out as HeldOut}
use Rattle.ur_check_rules.specs.declared.out.Sites.{Sites as HeldSites}
use Rattle.ur_check_rules.specs.Views.{sites_in, out_with}
use Rattle.ur_check_forms.specs.declared.marked.Marked.{Marked as HeldMarked}
use Rattle.ur_check_forms.specs.Views.{marks_with, marked_with}
use Rattle.ur_check_walk.specs.declared.markup.Within.{Within}
use Rattle.ur_check_walk.specs.Promises.{Gives, Tells}
use Rattle.ur_check_walk.specs.Listed.{exp_row}
use Rattle.ur_check_walk.specs.Marking.{literal_in, PartsHaveFault, breaks_parts, in_parts, GivesParts, TellsParts}
use Rattle.ur_check_walk.proofs.Steps.{part, rule, gives-as, tells-as}

abbrev names_at : Around → List (List ℕ)
names_at a = a.world.now.datatype_names

-- ---- the form

exp-row-made : (xs : List Exp) → ◌≡◌ {A = (s : Shape) × Row_of-Exp (count s)} (T.shape-the_row-Exp-3 xs, T.hidden-the_row-Exp-3 xs) (exp_row xs)
unfolding T.hidden-the_row-Exp-3 T.shape-the_row-Exp-3 denote.Hole.Carrier.hidden
exp-row-made [] = refl
exp-row-made (x ∷ xs) = ap (λ (k : (s : Shape) × Row_of-Exp (count s)). (tt ∷ k.0, more_of-Exp x.span x.form k.1)) (exp-row-made xs)

-- the form as the definitions name it
abbrev xml_of : Xml → List Exp → List Exp → ExpForm
xml_of x us vs = e.Xml' x (exp_row us).0 (exp_row us).1 (exp_row vs).0 (exp_row vs).1

xml-plain : (x : Xml) (us vs : List Exp) → e.Xml x us vs ≡ xml_of x us vs
unfolding T.shape-the_row-Exp-3
xml-plain x us vs = ap₂ (λ (j k : (s : Shape) × Row_of-Exp (count s)). e.Xml' x j.0 j.1 k.0 k.1) (exp-row-made us) (exp-row-made vs)

-- the same with what stands in the literal
abbrev xml_in : Xml → Within → ExpForm
xml_in x y = xml_of x y.splices.now y.attributes.now

xml-within : (x : Xml) (y : Within) (us vs : List Exp) → y.splices.now ≡ us → y.attributes.now ≡ vs → e.Xml x us vs ≡ xml_in x y
xml-within x y us vs es ea = ap₂ (λ j k. e.Xml x j k) (sym es) (sym ea) ∙ xml-plain x y.splices.now y.attributes.now

-- ---- the tree

marks-row : (ms : List Markup) → ◌≡◌ {A = Markups} (R.shape-the_row-Markup-4 ms, R.hidden-the_row-Markup-4 ms) (marks_with ms)
unfolding R.hidden-the_row-Markup-4 R.shape-the_row-Markup-4 denote.Hole.Carrier.hidden
marks-row [] = refl
marks-row (m ∷ ms) = ap (λ (k : Markups). (tt ∷ k.0, more_of-Markup m k.1)) (marks-row ms)

xml-tree : (t : NormalType) (ms : List Markup) → exp.Xml t ms ≡ exp.Xml' t (marks_with ms).0 (marks_with ms).1
unfolding R.shape-the_row-Markup-4
xml-tree t ms = ap (λ (k : Markups). exp.Xml' t k.0 k.1) (marks-row ms)

pub xml-made : (t at of : NormalType) (ms : List Markup) (o : HeldOut) → at ≡ t → of ≡ t → ((st : Sites) → gives of (exp.Xml at ms) st ≡ Some (out_with o st)) → (st : Sites) → gives t (exp.Xml' t (marks_with ms).0 (marks_with ms).1) st ≡ Some (out_with o st)
xml-made t at of ms o ea eo h st = ap₂ (λ x y. gives x y st) (sym eo) (sym (xml-tree t ms) ∙ ap (λ z. exp.Xml z ms) (sym ea)) ∙ h st

-- ---- the sort

wanted-so : (t : Option NormalType) → type_of_mode (mode_of t) ≡ t
wanted-so None = refl
wanted-so (Some t) = refl

sort-there : (parts : List XmlPart) (t : Option NormalType) (k : Sort) → sort_of_literal parts t ≡ Some k → literal_sort (row_of_parts parts).1 (type_of_mode (mode_of t)) ≡ Some k
sort-there parts t k h = ap₂ (λ xs u. sort_of_literal xs u) (items-row_of_parts parts) (wanted-so t) ∙ h

pub sort-none : (a : Around) (parts : List XmlPart) (t : Option NormalType) (s' : Stop) → sort_of_literal parts t ≡ None → ((u : NormalType) → t ≡ Some u → StopIs (names_at a) (mismatch (codes "xml") (type_text (names_at a) u)) s') →
    IfRefused {A = Unit {0}} (Err s') (λ r. (u : NormalType) × (t ≡ Some u) × (sort_of u ≡ None) × TellsFault (names_at a) r (mismatch (codes "xml") (type_text (names_at a) u)))
sort-none a parts None s' e h = cc
sort-none a parts (Some u) (stop.Refused r) e h = (u, refl, e, h u refl)
sort-none a parts (Some u) stop.Memory e h = tt

-- no literal has the type
pub sort-tells : (a : Around) (st : HeldSites) (x : Xml) (us vs : List Exp) (t : Option NormalType) (r : Refusal) →
    (u : NormalType) × (t ≡ Some u) × (sort_of u ≡ None) × TellsFault (names_at a) r (mismatch (codes "xml") (type_text (names_at a) u)) → Tells a st (e.Xml x us vs) (mode_of t) r
sort-tells a st x us vs t r h = tells-as a st (e.Xml x us vs) (xml_of x us vs) (mode_of t) r (xml-plain x us vs)
    (λ w s stands. rule (mismatch (codes "xml") (type_text (names_at a) h.0), no_sort (wanted-so t ∙ h.1) h.2, h.3))

-- its parts have another frame
pub frame-tells : (a : Around) (st : HeldSites) (x : Xml) (us vs : List Exp) (t : Option NormalType) (parts : List XmlPart) (k : Sort) → parts ≡ x.parts → sort_of_literal parts t ≡ Some k →
    (r : Refusal) → IsBadFrame k parts r → Tells a st (e.Xml x us vs) (mode_of t) r
frame-tells a st x us vs t parts k ep h r b = tells-as a st (e.Xml x us vs) (xml_of x us vs) (mode_of t) r (xml-plain x us vs)
    (λ w s stands. rule (as_refused r, no_frame (sort-there x.parts t k (ap (λ z. sort_of_literal z t) (sym ep) ∙ h)) (subst (λ z. IsBadFrame k z r) (ep ∙ sym (items-row_of_parts x.parts)) b), (refl, refl, refl)))

-- ---- the parts

parts-fault : (names : List (List ℕ)) (w : World) (s : Scope) (x : Xml) (y : Within) (st : Sites) (m : Mode) (k : Sort) (r : Refusal) → literal_sort (row_of_parts x.parts).1 (type_of_mode m) ≡ Some k → PartsHaveFault names w s y (place_of k) _ (row_of_parts x.parts).1 st r →
    HasFault names w s st (xml_in x y) m r
parts-fault names w s x y st m k r e (breaks_parts b) = rule (b.0, in_literal e b.1, b.2)
parts-fault names w s x y st m k r e (in_parts f h) = part (in_xml e f) h

pub parts-tell : (a : Around) (st : HeldSites) (x : Xml) (y : Within) (us vs : List Exp) (t : Option NormalType) (parts : List XmlPart) (k : Sort) (p : Place) → y.splices.now ≡ us → y.attributes.now ≡ vs → parts ≡ x.parts → sort_of_literal parts t ≡ Some k → p ≡ place_of k →
    (r : Refusal) → TellsParts a st y p parts r → Tells a st (e.Xml x us vs) (mode_of t) r
parts-tell a st x y us vs t parts k p es ea ep h q r b = tells-as a st (e.Xml x us vs) (xml_in x y) (mode_of t) r (xml-within x y us vs es ea)
    (λ w s stands. parts-fault (names_at a) w s x y (sites_in st) (mode_of t) k r (sort-there x.parts t k (ap (λ z. sort_of_literal z t) (sym ep) ∙ h))
    (subst (λ z. PartsHaveFault (names_at a) w s y z _ (row_of_parts x.parts).1 (sites_in st) r) q (subst (λ z. PartsHaveFault (names_at a) w s y p _ (row_of_parts z).1 (sites_in st) r) ep (b w s stands))))

parts-there : (a : Around) (st0 st1 : HeldSites) (x : Xml) (y : Within) (parts : List XmlPart) (k : Sort) (p : Place) (m : HeldMarked) → parts ≡ x.parts → p ≡ place_of k → GivesParts a st0 y p parts m st1 → GivesParts a st0 y (place_of k) x.parts m st1
parts-there a st0 st1 x y parts k p m ep q g = subst (λ z. GivesParts a st0 y z x.parts m st1) q (subst (λ z. GivesParts a st0 y p z m st1) ep g)

-- ---- the whole

fields-meet : (names : List (List ℕ)) (w : World) (s : Scope) (x : Xml) (y : Within) (st : Sites) (m : Mode) (k : Sort) (d : Marked) (r : Refusal) → literal_sort (row_of_parts x.parts).1 (type_of_mode m) ≡ Some k → k ≡ fields →
    parts_out (literal_in w s y) (row_of_parts x.parts).1 (place_of k) st ≡ Some d → Refuses names (BreaksFields s.env.known d.row) r → HasFault names w s st (xml_in x y) m r
fields-meet names w s x y st m k d r e f g h = rule (h.0, meets h.0 h.1, h.2)
  where
    meets : (c : Fault) → BreaksFields s.env.known d.row c → Breaks names w s st (xml_in x y) m c
    meets _ (fields_met b) = literal_meets (e ∙ ap Some f) (ap (λ z. parts_out (literal_in w s y) (row_of_parts x.parts).1 (place_of z) st) (sym f) ∙ g) b

pub fields-tell : (a : Around) (st0 st1 : HeldSites) (x : Xml) (y : Within) (us vs : List Exp) (t : Option NormalType) (parts : List XmlPart) (k : Sort) (p : Place) (m : HeldMarked) → y.splices.now ≡ us → y.attributes.now ≡ vs → parts ≡ x.parts →
    sort_of_literal parts t ≡ Some k → p ≡ place_of k → GivesParts a st0 y p parts m st1 → (r : Refusal) → (k ≡ fields) × Refuses (names_at a) (BreaksFields (env_in a.scope.cons).known m.row) r → Tells a st0 (e.Xml x us vs) (mode_of t) r
fields-tell a st0 st1 x y us vs t parts k p m es ea ep h q g r b = tells-as a st0 (e.Xml x us vs) (xml_in x y) (mode_of t) r (xml-within x y us vs es ea)
    (λ w s stands. fields-meet (names_at a) w s x y (sites_in st0) (mode_of t) k (marked_with m (sites_in st1)) r (sort-there x.parts t k (ap (λ z. sort_of_literal z t) (sym ep) ∙ h)) b.0
    (parts-there a st0 st1 x y parts k p m ep q g w s stands) (subst (λ z. Refuses (names_at a) (BreaksFields z m.row) r) (sym stands.known) b.1))

pub literal-given : (a : Around) (st0 st1 : HeldSites) (x : Xml) (y : Within) (us vs : List Exp) (t : Option NormalType) (parts : List XmlPart) (k : Sort) (p : Place) (m : HeldMarked) (o : HeldOut) → y.splices.now ≡ us → y.attributes.now ≡ vs → parts ≡ x.parts →
    sort_of_literal parts t ≡ Some k → fault_of_sort k parts ≡ None → p ≡ place_of k → GivesParts a st0 y p parts m st1 → sort_fits (env_in a.scope.cons).known k m.row ≡ true →
    ((st : Sites) → gives (sort_type k m.row) (exp.Xml' (sort_type k m.row) (marks_with m.marks).0 (marks_with m.marks).1) st ≡ Some (out_with o st)) → Gives a st0 (e.Xml x us vs) (mode_of t) o st1
literal-given a st0 st1 x y us vs t parts k p m o es ea ep h f q g n made = gives-as a st0 (e.Xml x us vs) (xml_in x y) (mode_of t) o st1 (xml-within x y us vs es ea) (λ w s stands.
    let l : Literal = literal_in w s y in
    let row = (row_of_parts x.parts).1 in
    let whole : Marked → Option Out = λ (z : Marked). if_so (sort_fits s.env.known k z.row) (gives (sort_type k z.row) (exp.Xml' (sort_type k z.row) z.marks.0 z.marks.1) z.sites) in
    ap (option_and_then (sorted_out l row (sites_in st0))) (sort-there x.parts t k (ap (λ z. sort_of_literal z t) (sym ep) ∙ h))
    ∙ ap (λ z. if_so (is_none (fault_of_sort k z)) (option_and_then whole (parts_out l row (place_of k) (sites_in st0)))) (items-row_of_parts x.parts ∙ sym ep)
    ∙ ap (λ z. if_so (is_none z) (option_and_then whole (parts_out l row (place_of k) (sites_in st0)))) f
    ∙ ap (option_and_then whole) (parts-there a st0 st1 x y parts k p m ep q g w s stands)
    ∙ ap (λ z. if_so z (gives (sort_type k m.row) (exp.Xml' (sort_type k m.row) (marks_with m.marks).0 (marks_with m.marks).1) (sites_in st1))) (ap (λ z. sort_fits z k m.row) stands.known ∙ n)
    ∙ made (sites_in st1))
