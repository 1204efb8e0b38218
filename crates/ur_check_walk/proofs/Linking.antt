-- Links, buttons and fields of forms.
use Rattle.std.proofs.Common.{arith, ◌≡◌, ◌∙◌, refl, ap, ap₂, sym, subst, true, false, Bool, ℕ, zero, suc, ◌+◌, List, [], ◌∷◌, Option, Some, None, Err}
use Rattle.std.specs.Prelude.{option_map, option_and_then, slice_get, codes}
use mathlib.Core.Former.{Count}
use Rattle.ur_base.specs.Shape.{Shape, count}
use Rattle.ur_base.specs.Stopping.{IfRefused}
use Rattle.ur_base.specs.declared.refusal.Refusal.{Refusal}
use Rattle.ur_base.specs.declared.refusal.Stop.{Stop}
use Rattle.ur_base.specs.declared.refusal.Stop.TheVariants as stop
use Rattle.ur_syntax.specs.declared.exp.Exp.{Exp}
use Rattle.ur_syntax.specs.declared.exp.ExpForm.{ExpForm}
use Rattle.ur_syntax.specs.declared.xml.AttrValue.{AttrValue}
use Rattle.ur_syntax.specs.declared.xml.AttrValue.TheVariants as attr_value
use Rattle.ur_syntax.specs.declared.xml.XmlForm.{Row_of-XmlPart}
use Rattle.ur_syntax.specs.declared.xml.XmlPart.{XmlPart}
use Rattle.ur_values.specs.declared.value.FieldKind.{FieldKind}
use Rattle.ur_rows.specs.declared.normal.Label.{Label}
use Rattle.ur_rows.specs.declared.normal.NormalType.{NormalType}
use Rattle.ur_rows.specs.declared.normal.NormalType.TheVariants as ty
use Rattle.ur_rows.specs.declared.normal.Part.{Part}
use Rattle.ur_rows.specs.Kinded.{label_is_in}
use Rattle.ur_rows.specs.Types.{field}
use Rattle.ur_tree.specs.Places.{Place}
use Rattle.ur_tree.specs.Places as places
use Rattle.ur_xmltype.specs.Literal.{row_of_parts}
use Rattle.ur_xmltype.specs.Tags as node
use Rattle.ur_tree.specs.declared.exp.Exp.{Exp as Resolved}
use Rattle.ur_tree.specs.declared.exp.Exp.TheVariants as exp
use Rattle.ur_tree.specs.declared.exp.Exp.TheBlock as T
use Rattle.ur_tree.specs.declared.exp.Exp.TheBlock.{more_of-Markup, Held-Exp-Tagged-1 as Held}
use Rattle.ur_tree.specs.declared.exp.Markup.{Markup}
use Rattle.ur_tree.specs.declared.exp.Markup.TheVariants as markup
use Rattle.ur_tree.specs.Env.{variables}
use Rattle.ur_tree.specs.Heads.{Declared}
use Rattle.ur_tree.specs.Typing.{are_linkable}
use Rattle.ur_typed_rules.specs.Scopes.{World, Scope, Mode, wants}
use Rattle.ur_typed_rules.specs.Faults.{Fault, TellsType as TellsFault, unkinded}
use Rattle.ur_typed_rules.specs.Rules.{if_so}
use Rattle.ur_typed_rules.proofs.Options.{some_of}
use Rattle.ur_typed.specs.Causes.{HasFault}
use Rattle.ur_typed.specs.Faults.{TooMany, TooFew, BreaksNode, within_link, no_label, many_linked, few_linked, many_acting, few_acting}
use Rattle.ur_typed.specs.Markups.{Literal, Marked, Markups, one_mark, page_params, without_last, called_at, parts_out, node_out, link_out, link_with, submit_out, submit_with, input_out, value_out, held_exp}
use Rattle.ur_typed.specs.Parts.{first_types, in_link, in_link_target, in_submit_target, in_input_value, in_submit_value}
use Rattle.ur_typed.specs.Resolves.{IsAntiquote, first, later}
use Rattle.ur_typed.specs.Rules.{Sites, Out, Walk, Args as RuleArgs, args_out, with_arg}
use Rattle.ur_typed.specs.Walking.{typed, call_walk}
use Rattle.ur_typed.proofs.Literals.{attribute_at}
use Rattle.ur_check_scopes.specs.declared.around.Around.{Around}
use Rattle.ur_check_scopes.specs.Views.{Stands, Refuses, StopIs}
use Rattle.ur_check_rules.specs.declared.out.Out.{Out as HeldOut}
use Rattle.ur_check_rules.specs.declared.out.Sites.{Sites as HeldSites}
use Rattle.ur_check_rules.specs.Views.{sites_in, out_in, args_with}
use Rattle.ur_check_forms.specs.declared.marked.Marked.{Marked as HeldMarked}
use Rattle.ur_check_forms.specs.declared.marked.Waiting.{Waiting}
use Rattle.ur_check_forms.specs.declared.targets.Target.{Target}
use Rattle.ur_check_forms.specs.Views.{records_in, marks_with, marked_with}
use Rattle.ur_check_forms.proofs.Aiming.{link-broken, action-broken}
use Rattle.ur_check_walk.specs.declared.markup.Within.{Within}
use Rattle.ur_check_walk.specs.declared.targets.Aim.TheVariants as aim
use Rattle.ur_check_walk.specs.Promises.{GivesTyped, Tells}
use Rattle.ur_check_walk.specs.Listed.{exp_row}
use Rattle.ur_check_walk.specs.Marking.{literal_in, PartsHaveFault, breaks_parts, in_parts, NodeHasFault, breaks_node, in_node, GivesParts, TellsParts, GivesNode, TellsNode}
use Rattle.ur_check_walk.specs.Aiming.{BreaksTarget, breaks_aim, given_more, given_less, IsTarget, TargetFault, in_target, breaks_target, GivesTarget, TellsTarget, held_with, GivesValue, ValueHasFault, TellsValue, IsStray}

-- ---- the marks that the code makes are those that the definitions name

args-made : (xs : List Resolved) → ◌≡◌ {A = RuleArgs} (T.shape-the_row-Exp-1 xs, T.hidden-the_row-Exp-1 xs) (args_with xs)
unfolding T.hidden-the_row-Exp-1 T.shape-the_row-Exp-1 denote.Hole.Carrier.hidden
args-made [] = refl
args-made (x ∷ xs) = ap (λ (k : RuleArgs). with_arg x k) (args-made xs)

marks-made : (ms : List Markup) → ◌≡◌ {A = Markups} (T.shape-the_row-Markup-4 ms, T.hidden-the_row-Markup-4 ms) (marks_with ms)
unfolding T.hidden-the_row-Markup-4 T.shape-the_row-Markup-4 denote.Hole.Carrier.hidden
marks-made [] = refl
marks-made (m ∷ ms) = ap (λ (k : Markups). (tt ∷ k.0, more_of-Markup m k.1)) (marks-made ms)

pub link-made : (n : ℕ) (xs : List Resolved) (ms : List Markup) → markup.Link n xs ms ≡ markup.Link' n (args_with xs).0 (args_with xs).1 (marks_with ms).0 (marks_with ms).1
unfolding T.shape-the_row-Exp-1 T.shape-the_row-Markup-4
link-made n xs ms = ap₂ (λ (a : RuleArgs) (k : Markups). markup.Link' n a.0 a.1 k.0 k.1) (args-made xs) (marks-made ms)

pub input-made : (k : FieldKind) (l : Label) (h : Option Resolved) → markup.Input k l h ≡ markup.Input' k l (held_with h)
unfolding T.hidden-the_row-Exp-0 denote.Hole.Carrier.hidden
input-made k l None = refl
input-made k l (Some x) = refl

pub submit-made : (n : ℕ) (xs : List Resolved) (h : Option Resolved) → markup.Submit n xs h ≡ markup.Submit' n (args_with xs).0 (args_with xs).1 (held_with h)
unfolding T.hidden-the_row-Exp-0 T.shape-the_row-Exp-1 denote.Hole.Carrier.hidden
submit-made n xs None = ap (λ (a : RuleArgs). markup.Submit' n a.0 a.1 (held_with None)) (args-made xs)
submit-made n xs (Some x) = ap (λ (a : RuleArgs). markup.Submit' n a.0 a.1 (held_with (Some x))) (args-made xs)

-- a part is one mark
abbrev pub Marks : List Part → List NormalType → Markup → HeldMarked → Type 0
Marks row waiting mark m = (st : Sites) → one_mark row waiting mark st ≡ Some (marked_with m st)

marks-as : (row more : List Part) (waiting wanted : List NormalType) (x y : Markup) (m : HeldMarked) → row ≡ more → waiting ≡ wanted → x ≡ y → Marks row waiting x m → Marks more wanted y m
marks-as row more waiting wanted x y m er ew ex h = subst (λ z. Marks z wanted y m) er (subst (λ z. Marks row z y m) ew (subst (λ z. Marks row waiting z m) ex h))

pub link-marked : (inner : HeldMarked) (n : ℕ) (args : List Resolved) (m : HeldMarked) → Marks inner.row (records_in inner.waiting) (markup.Link n args inner.marks) m →
    Marks inner.row (records_in inner.waiting) (markup.Link' n (args_with args).0 (args_with args).1 (marks_with inner.marks).0 (marks_with inner.marks).1) m
link-marked inner n args m h = marks-as inner.row inner.row (records_in inner.waiting) (records_in inner.waiting) (markup.Link n args inner.marks) _ m refl refl (link-made n args inner.marks) h

pub input-marked : (row : List Part) (ws : List Waiting) (k : FieldKind) (l copy : Label) (held : Option Resolved) (m : HeldMarked) → copy ≡ l → row ≡ field copy (places.field_type k) ∷ [] → ws ≡ [] → Marks row (records_in ws) (markup.Input k l held) m →
    Marks (field l (places.field_type k) ∷ []) [] (markup.Input' k l (held_with held)) m
input-marked row ws k l copy held m el er ew h = marks-as row _ (records_in ws) [] (markup.Input k l held) _ m (er ∙ ap (λ z. field z (places.field_type k) ∷ []) el) (ap records_in ew) (input-made k l held) h

pub submit-marked : (row : List Part) (waiting : List NormalType) (u : NormalType) (n : ℕ) (args : List Resolved) (held : Option Resolved) (m : HeldMarked) → row ≡ [] → waiting ≡ u ∷ [] → Marks row waiting (markup.Submit n args held) m →
    Marks [] (u ∷ []) (markup.Submit' n (args_with args).0 (args_with args).1 (held_with held)) m
submit-marked row waiting u n args held m er ew h = marks-as row [] waiting (u ∷ []) (markup.Submit n args held) _ m er ew (submit-made n args held) h

-- ---- expressions of attributes

pub antiquote-at : (xs : List Exp) (n : ℕ) (x : Exp) → slice_get xs n ≡ Some x → IsAntiquote _ (exp_row xs).1 n x.form
antiquote-at [] n x h = cc
antiquote-at (y ∷ xs) zero x h = subst (λ (z : Exp). IsAntiquote _ (exp_row (y ∷ xs)).1 0 z.form) (some_of h) first
antiquote-at (y ∷ xs) (suc n) x h = let e : n + 1 ≡ suc n = omega arith in subst (λ k. IsAntiquote _ (exp_row (y ∷ xs)).1 k x.form) e (later (antiquote-at xs n x h))

-- the literal has this expression among those of its attributes
abbrev pub HasAttribute : Within → ℕ → Exp → Type 0
HasAttribute x n e = slice_get x.attributes.now n ≡ Some e

called-there : (w : World) (s : Scope) (x : Within) (n : ℕ) (e : Exp) (c : Option (ℕ × List Walk)) → HasAttribute x n e → call_walk w e.form s [] ≡ c → called_at (literal_in w s x) n ≡ c
called-there w s x n e c at h = ap (option_and_then (λ a. a.calls)) (attribute_at w s _ (exp_row x.attributes.now).1 n e.form (antiquote-at x.attributes.now n e at)) ∙ h

-- ---- values

pub value-gives : (a : Around) (before after : HeldSites) (x : Within) (n : ℕ) (e : Exp) (v : AttrValue) (o : HeldOut) (z : Resolved) → HasAttribute x n e → v ≡ attr_value.Exp n → GivesTyped a before e.form (wants ty.Str) o after → z ≡ o.exp → GivesValue a before x (Some v) (Some z) after
value-gives a before after x n e v o z at ev h ez w s st =
    let l : Literal = literal_in w s x in
    ap (λ k. value_out l (sites_in before) (Some k)) ev
    ∙ ap (option_and_then (λ b. option_and_then (λ (y : Out). Some (held_exp y.exp, y.sites)) (b.walk l.scope (sites_in before) (wants ty.Str)))) (attribute_at w s _ (exp_row x.attributes.now).1 n e.form (antiquote-at x.attributes.now n e at))
    ∙ ap (option_and_then (λ (y : Out). Some (held_exp y.exp, y.sites))) (h w s st)
    ∙ ap (λ y. Some (held_exp y, sites_in after)) (sym ez)

pub value-refused : (a : Around) (before : HeldSites) (x : Within) (n : ℕ) (e : Exp) (v : AttrValue) (r : Refusal) → HasAttribute x n e → v ≡ attr_value.Exp n → Tells a before e.form (wants ty.Str) r → TellsValue a before x (Some v) r
value-refused a before x n e v r at ev h w s st = record { number = n; form = e.form; given = ap Some ev; at = antiquote-at x.attributes.now n e at; fault = h w s st }

pub text-gives : (a : Around) (before : HeldSites) (x : Within) (v : AttrValue) (t : List ℕ) (z : Resolved) → v ≡ attr_value.Text t → z ≡ exp.Str t → GivesValue a before x (Some v) (Some z) before
text-gives a before x v t z ev ez w s st = ap (λ k. value_out (literal_in w s x) (sites_in before) (Some k)) ev ∙ ap (λ y. Some (held_exp y, sites_in before)) (sym ez)

-- the same value
pub value-as : (a : Around) (before after : HeldSites) (x : Within) (u v : Option AttrValue) (held : Option Resolved) → v ≡ u → GivesValue a before x u held after → GivesValue a before x v held after
value-as a before after x u v held e h = subst (λ z. GivesValue a before x z held after) (sym e) h

pub value-told-as : (a : Around) (before : HeldSites) (x : Within) (u v : Option AttrValue) (r : Refusal) → v ≡ u → TellsValue a before x u r → TellsValue a before x v r
value-told-as a before x u v r e h = subst (λ z. TellsValue a before x z r) (sym e) h

-- ---- links

-- the target of a link, from where the statements before it are numbered
abbrev pub LinkTarget : Around → HeldSites → Exp → Target × List Resolved → HeldSites → Type 0
LinkTarget a before e t after = GivesTarget a before aim.Link e.form [] t after

pub link-gives : (a : Around) (before between after : HeldSites) (x : Within) (p : Place) (parts : List XmlPart) (i : ℕ) (e : Exp) (t : Target) (done : List Resolved) (inner m : HeldMarked) → HasAttribute x i e → LinkTarget a before e (t, done) between → GivesParts a between x p parts inner after →
    ((st : Sites) → one_mark inner.row (records_in inner.waiting) (markup.Link' t.number (args_with done).0 (args_with done).1 (marks_with inner.marks).0 (marks_with inner.marks).1) st ≡ Some (marked_with m st)) → GivesNode a before x p parts (node.link i) m after
link-gives a before between after x p parts i e t done inner m at target h mark w s stands =
    let is : IsTarget w s aim.Link e.form [] (sites_in before) t done (sites_in between) = target w s stands in
    let l : Literal = literal_in w s x in
    let st : Sites = sites_in before in
    let within : Sites → Option Marked = λ su. parts_out l (row_of_parts parts).1 p su in
    let marked : RuleArgs → Marked → Option Marked = λ r k. one_mark k.row k.waiting (markup.Link' t.number r.0 r.1 k.marks.0 k.marks.1) k.sites in
    let resolved : RuleArgs × Sites → Option Marked = λ r. option_and_then (marked r.0) (within r.1) in
    ap (option_and_then (link_out l within st)) (called-there w s x i e (Some (t.number, is.args)) at is.called)
    ∙ ap (option_and_then (link_with l within st (t.number, is.args))) is.aims.params
    ∙ ap (λ b. if_so b (option_and_then resolved (args_out s is.args t.args st))) is.aims.linkable
    ∙ ap (option_and_then resolved) is.given
    ∙ ap (option_and_then (marked (args_with done))) (h w s stands)
    ∙ mark (sites_in after)

link-breaks : (names : List (List ℕ)) (l : Literal) (p : Place) (i : ℕ) (n : Count) (inner : Row_of-XmlPart n) (st : Sites) (c : Option (ℕ × List Walk)) (f : Fault) → called_at l i ≡ c → BreaksTarget aim.Link l.declared c f → BreaksNode names l p n inner st (node.link i) f
link-breaks names l p i n inner st c _ at (breaks_aim found xs {f = f} ec b) = link-broken names l p i xs found n inner st f (at ∙ ec) b
link-breaks names l p i n inner st c _ at (given_more ec asks more) = many_linked (at ∙ ec) (asks.params ∙ asks.wanted) more
link-breaks names l p i n inner st c _ at (given_less ec asks less) = few_linked (at ∙ ec) (asks.params ∙ asks.wanted) less

link-target-told : {names : List (List ℕ)} {w : World} {s : Scope} {st : Sites} {r : Refusal} (x : Within) (p : Place) (k : Shape) (row : Row_of-XmlPart (count k)) (i : ℕ) (e : Exp) → HasAttribute x i e → TargetFault names w s aim.Link e.form [] st r → NodeHasFault names w s x p k row (node.link i) st r
link-target-told x p k row i e at (in_target c h) = in_node (λ t attrs here. in_link_target here (antiquote-at x.attributes.now i e at) c) h
link-target-told {names = names} {w = w} {s = s} {st = st} x p k row i e at (breaks_target t) =
    breaks_node (t.0, link-breaks names (literal_in w s x) p i (count k) row st (call_walk w e.form s []) t.0 (called-there w s x i e (call_walk w e.form s []) at refl) t.1, t.2)

pub link-target-tells : (a : Around) (before : HeldSites) (x : Within) (p : Place) (parts : List XmlPart) (i : ℕ) (e : Exp) (r : Refusal) → HasAttribute x i e → TellsTarget a before aim.Link e.form [] r → TellsNode a before x p parts (node.link i) r
link-target-tells a before x p parts i e r at h w s st = link-target-told x p (row_of_parts parts).0 (row_of_parts parts).1 i e at (h w s st)

link-parts-told : {names : List (List ℕ)} {w : World} {s : Scope} {st su : Sites} {r : Refusal} (x : Within) (p : Place) (k : Shape) (row : Row_of-XmlPart (count k)) (i n : ℕ) (xs : List Walk) (ts : List NormalType) (done : RuleArgs) → called_at (literal_in w s x) i ≡ Some (n, xs) →
    page_params w.declared n ≡ Some ts → args_out s xs ts st ≡ Some (done, su) → PartsHaveFault names w s x p (count k) row su r → NodeHasFault names w s x p k row (node.link i) st r
link-parts-told x p k row i n xs ts done called params given (breaks_parts b) = breaks_node (b.0, within_link called params given b.1, b.2)
link-parts-told x p k row i n xs ts done called params given (in_parts c g) = in_node (λ t attrs here. in_link here called params given c) g

pub link-parts-tell : (a : Around) (before between : HeldSites) (x : Within) (p : Place) (parts : List XmlPart) (i : ℕ) (e : Exp) (t : Target) (done : List Resolved) (r : Refusal) → HasAttribute x i e → LinkTarget a before e (t, done) between → TellsParts a between x p parts r → TellsNode a before x p parts (node.link i) r
link-parts-tell a before between x p parts i e t done r at target h w s st =
    let is : IsTarget w s aim.Link e.form [] (sites_in before) t done (sites_in between) = target w s st in
    link-parts-told x p (row_of_parts parts).0 (row_of_parts parts).1 i t.number is.args t.args (args_with done) (called-there w s x i e (Some (t.number, is.args)) at is.called) is.aims.params is.given (h w s st)

-- ---- buttons

abbrev pub ActionTarget : Around → HeldSites → Exp → Target × List Resolved → HeldSites → Type 0
ActionTarget a before e t after = GivesTarget a before aim.Action e.form [] t after

-- what the code makes of a button, whose function wants this record
abbrev pub IsSubmitted : Target → List Resolved → Option Resolved → HeldMarked → Type 0
IsSubmitted t done held m = (u : NormalType) (st : Sites) → t.wanted ≡ Some u → one_mark [] (u ∷ []) (markup.Submit' t.number (args_with done).0 (args_with done).1 (held_with held)) st ≡ Some (marked_with m st)

pub submitted-as : (t : Target) (u : NormalType) (done : List Resolved) (held : Option Resolved) (m : HeldMarked) → t.wanted ≡ Some u → Marks [] (u ∷ []) (markup.Submit' t.number (args_with done).0 (args_with done).1 (held_with held)) m → IsSubmitted t done held m
submitted-as t u done held m e h v st f = subst (λ z. one_mark [] (z ∷ []) (markup.Submit' t.number (args_with done).0 (args_with done).1 (held_with held)) st ≡ Some (marked_with m st)) (some_of (sym e ∙ f)) (h st)

pub submit-gives : (a : Around) (before between after : HeldSites) (x : Within) (p : Place) (parts : List XmlPart) (i : ℕ) (v : Option AttrValue) (e : Exp) (t : Target) (done : List Resolved) (held : Option Resolved) (m : HeldMarked) → HasAttribute x i e → ActionTarget a before e (t, done) between →
    GivesValue a between x v held after → IsSubmitted t done held m → GivesNode a before x p parts (node.submit i v) m after
submit-gives a before between after x p parts i v e t done held m at target h mark w s stands =
    let is : IsTarget w s aim.Action e.form [] (sites_in before) t done (sites_in between) = target w s stands in
    let l : Literal = literal_in w s x in
    let st : Sites = sites_in before in
    let u : NormalType = is.aims.wanted in
    let marked : RuleArgs → Held × Sites → Option Marked = λ r k. one_mark [] (u ∷ []) (markup.Submit' t.number r.0 r.1 k.0) k.1 in
    let resolved : RuleArgs × Sites → Option Marked = λ r. option_and_then (marked r.0) (value_out l r.1 v) in
    ap (option_and_then (submit_out l v st)) (called-there w s x i e (Some (t.number, is.args)) at is.called)
    ∙ ap (λ z. option_and_then (submit_with l v st (t.number, is.args)) (option_and_then without_last z)) is.aims.params
    ∙ ap (option_and_then (submit_with l v st (t.number, is.args))) is.aims.front
    ∙ ap (λ b. if_so b (option_and_then resolved (args_out s is.args t.args st))) is.aims.linkable
    ∙ ap (option_and_then resolved) is.given
    ∙ ap (option_and_then (marked (args_with done))) (h w s stands)
    ∙ mark u (sites_in after) is.aims.is_wanted

but-last : (o : Option (List NormalType × NormalType)) (ts : List NormalType) → option_map first_types o ≡ Some ts → (r : List NormalType × NormalType) × (o ≡ Some r) × (r.0 ≡ ts)
but-last None ts h = cc
but-last (Some r) ts h = (r, refl, some_of h)

submit-breaks : (names : List (List ℕ)) (l : Literal) (p : Place) (i : ℕ) (v : Option AttrValue) (n : Count) (inner : Row_of-XmlPart n) (st : Sites) (c : Option (ℕ × List Walk)) (f : Fault) → called_at l i ≡ c → BreaksTarget aim.Action l.declared c f → BreaksNode names l p n inner st (node.submit i v) f
submit-breaks names l p i v n inner st c _ at (breaks_aim found xs {f = f} ec b) = action-broken names l p i v xs found n inner st f (at ∙ ec) b
submit-breaks names l p i v n inner st c _ at (given_more {xs = xs} {ts = ts} ec asks more) =
    let b : (r : List NormalType × NormalType) × (without_last asks.all ≡ Some r) × (r.0 ≡ ts) = but-last (without_last asks.all) ts asks.wanted in
    many_acting (at ∙ ec) asks.params b.1 (subst (λ z. TooMany xs z) (sym b.2) more)
submit-breaks names l p i v n inner st c _ at (given_less {xs = xs} {ts = ts} ec asks less) =
    let b : (r : List NormalType × NormalType) × (without_last asks.all ≡ Some r) × (r.0 ≡ ts) = but-last (without_last asks.all) ts asks.wanted in
    few_acting (at ∙ ec) asks.params b.1 (subst (λ z. TooFew xs z) (sym b.2) less)

submit-target-told : {names : List (List ℕ)} {w : World} {s : Scope} {st : Sites} {r : Refusal} (x : Within) (p : Place) (k : Shape) (row : Row_of-XmlPart (count k)) (i : ℕ) (v : Option AttrValue) (e : Exp) → HasAttribute x i e → TargetFault names w s aim.Action e.form [] st r →
    NodeHasFault names w s x p k row (node.submit i v) st r
submit-target-told x p k row i v e at (in_target c h) = in_node (λ t attrs here. in_submit_target here (antiquote-at x.attributes.now i e at) c) h
submit-target-told {names = names} {w = w} {s = s} {st = st} x p k row i v e at (breaks_target t) =
    breaks_node (t.0, submit-breaks names (literal_in w s x) p i v (count k) row st (call_walk w e.form s []) t.0 (called-there w s x i e (call_walk w e.form s []) at refl) t.1, t.2)

pub submit-target-tells : (a : Around) (before : HeldSites) (x : Within) (p : Place) (parts : List XmlPart) (i : ℕ) (v : Option AttrValue) (e : Exp) (r : Refusal) → HasAttribute x i e → TellsTarget a before aim.Action e.form [] r → TellsNode a before x p parts (node.submit i v) r
submit-target-tells a before x p parts i v e r at h w s st = submit-target-told x p (row_of_parts parts).0 (row_of_parts parts).1 i v e at (h w s st)

pub submit-value-tells : (a : Around) (before between : HeldSites) (x : Within) (p : Place) (parts : List XmlPart) (i : ℕ) (v : Option AttrValue) (e : Exp) (t : Target) (done : List Resolved) (r : Refusal) → HasAttribute x i e → ActionTarget a before e (t, done) between → TellsValue a between x v r →
    TellsNode a before x p parts (node.submit i v) r
submit-value-tells a before between x p parts i v e t done r at target h w s stands =
    let is : IsTarget w s aim.Action e.form [] (sites_in before) t done (sites_in between) = target w s stands in
    let g : ValueHasFault a.world.now.datatype_names w s x v (sites_in between) r = h w s stands in
    in_node (λ t' attrs here. in_submit_value (here ∙ ap (λ z. Some (node.submit i z)) g.given) (called-there w s x i e (Some (t.number, is.args)) at is.called) is.aims.params is.aims.front is.given g.at) g.fault

-- ---- fields

pub input-gives : (a : Around) (before after : HeldSites) (x : Within) (p : Place) (parts : List XmlPart) (k : FieldKind) (l : Label) (v : Option AttrValue) (held : Option Resolved) (m : HeldMarked) → ((w : World) (s : Scope) → Stands a w s → label_is_in (variables s.env) l ≡ true) → GivesValue a before x v held after →
    ((st : Sites) → one_mark (field l (places.field_type k) ∷ []) [] (markup.Input' k l (held_with held)) st ≡ Some (marked_with m st)) → GivesNode a before x p parts (node.input k l v) m after
input-gives a before after x p parts k l v held m scoped h mark w s stands =
    let marked : Held × Sites → Option Marked = λ z. one_mark (field l (places.field_type k) ∷ []) [] (markup.Input' k l z.0) z.1 in
    ap (λ b. if_so b (option_and_then marked (value_out (literal_in w s x) (sites_in before) v))) (scoped w s stands)
    ∙ ap (option_and_then marked) (h w s stands)
    ∙ mark (sites_in after)

pub stray-tells : (a : Around) (before : HeldSites) (x : Within) (p : Place) (parts : List XmlPart) (k : FieldKind) (l : Label) (v : Option AttrValue) (r : Refusal) → ((w : World) (s : Scope) → Stands a w s → IsStray a.world.now.datatype_names s l r) → TellsNode a before x p parts (node.input k l v) r
stray-tells a before x p parts k l v r h w s st = let t = h w s st in breaks_node (unkinded (codes "another kind") (codes "Name"), no_label t.0, t.1)

pub input-value-tells : (a : Around) (before : HeldSites) (x : Within) (p : Place) (parts : List XmlPart) (k : FieldKind) (l : Label) (v : Option AttrValue) (r : Refusal) → TellsValue a before x v r → TellsNode a before x p parts (node.input k l v) r
input-value-tells a before x p parts k l v r h w s st =
    let g : ValueHasFault a.world.now.datatype_names w s x v (sites_in before) r = h w s st in
    in_node (λ t attrs here. in_input_value (here ∙ ap (λ z. Some (node.input k l z)) g.given) g.at) g.fault

pub stray-told : (a : Around) (l : Label) (b : Bool) (s' : Stop) → b ≡ false → ((w : World) (s : Scope) → Stands a w s → b ≡ label_is_in (variables s.env) l) → ((names : List (List ℕ)) → StopIs names (unkinded (codes "another kind") (codes "Name")) s') →
    IfRefused {A = Unit {0}} (Err s') (λ r. (w : World) (s : Scope) → Stands a w s → IsStray a.world.now.datatype_names s l r)
stray-told a l b (stop.Refused r) e h t = λ w s st. (sym (h w s st) ∙ e, t a.world.now.datatype_names)
stray-told a l b stop.Memory e h t = tt
