-- The calls of links and buttons, and the fields of forms, as they are written.
use Rattle.std.proofs.Common.{◌≡◌, ℕ, zero, suc, ◌+◌, ◌≤◌, Bool, true, false, List, [], ◌∷◌, ◌++◌, length, take, drop, Option, Some, None, Result, Ok, Err}
use Rattle.std.proofs.Common.{IfOk, codes, refl, sym, ap, ap₂, subst, ◌∙◌, append_assoc, append-nil, arith, Bor}
use Rattle.std.specs.Prelude.{nat_le, slice_get, ◌&&◌, if◌then◌else◌}
use Rattle.std.specs.List.{flat_map}
use Rattle.std.proofs.lemmas.List.{length-take, take-append-drop}
use Rattle.ur_base.specs.declared.names.Name.{Name}
use Rattle.ur_values.specs.declared.value.Call.{Call}
use Rattle.ur_values.specs.declared.value.Value.{Value}
use Rattle.ur_values.specs.declared.value.Value.TheVariants as v
use Rattle.ur_values.specs.declared.value.Node.{Node}
use Rattle.ur_values.specs.declared.value.Node.TheVariants as n
use Rattle.ur_values.specs.declared.value.FieldKind.{FieldKind}
use Rattle.ur_values.specs.Size.{size, nesting, node_sizes, node_nestings, optional_text_size, optional_nesting, greatest_size, is_small}
use Rattle.ur_values.proofs.Equations.{size-Row, nesting-Row, size-Link, nesting-Link, size-Submit, nesting-Submit}
use Rattle.ur_terms.specs.declared.term.Op.{Op}
use Rattle.ur_terms.specs.declared.term.Op.TheVariants as op
use Rattle.ur_terms.specs.declared.term.Term.{Term}
use Rattle.ur_terms.specs.declared.term.Term.TheVariants as t
use Rattle.ur_terms.specs.State.{State, Outcome, Done, Spent, built}
use Rattle.ur_terms.specs.Ops.{optional_text, with_unit}
use Rattle.ur_terms.proofs.Equations.{eval-Make}
use Rattle.ur_machine_frames.specs.Fields.{ReadsAs}
use Rattle.ur_tags.specs.declared.routes.Handlers.{Handlers}
use Rattle.ur_tags.specs.Paths.{argument_path, names_path, path}
use Rattle.ur_tags.specs.Show.{attribute, attribute_if_any, escape_quoted, link, show_field, show_node, show_nodes, submit}
use Rattle.ur_tags.proofs.Equations.{show_node-Link, show_node-Submit}
use Rattle.ur_tags.proofs.Plain.{path_shows_itself}
use Rattle.ur_emit.specs.declared.slots.Slot.{Slot}
use Rattle.ur_emit.specs.Makes.{Makes, MakeAll, ReadAll}
use Rattle.ur_emit.specs.Slots.{Adds, Written, Stand, Emits, EmitAll, Finds, ReadsText, WritesArgument, WritesArguments, WritesCall}
use Rattle.ur_emit.proofs.Makes.{sizes_of_one}
use Rattle.ur_emit.proofs.Placed.{makes-Link, makes-Input, makes-Submit}

-- ---- an argument

pub argument_read : (slots : List Slot) (a : Term) (x : Value) (o p : List ℕ) → ((env : List Value) → ReadsAs env a x) → p ≡ o ++ argument_path x
    → WritesArgument slots a o p
argument_read slots a x o p reads is h env st = (x, reads env, is)

pub argument_found : (slots : List Slot) (a : Term) (x : Value) (o p : List ℕ) → Finds slots a x → p ≡ o ++ argument_path x → WritesArgument slots a o p
argument_found slots a x o p f is h env st = (x, f h env st, is)

pub reads-Int : (i : _) (env : List Value) → ReadsAs env (t.Int i) (v.Int i)
reads-Int i env d p calls s = refl

pub reads-Str : (text : List ℕ) (env : List Value) → ReadsAs env (t.Str text) (v.Str text)
reads-Str text env d p calls s = refl

pub reads-Bool : (b : Bool) (env : List Value) → ReadsAs env (t.Bool b) (v.Bool b)
reads-Bool b env d p calls s = refl

unit_built : (s : State) → built (v.Row []) s ≡ Done (v.Row []) s
unit_built s =
    let e = size-Row [] in
    let f = nesting-Row [] in
    let one : nat_le (size (v.Row [])) greatest_size ≡ true = ap (λ n. nat_le n greatest_size) e in
    let two : nat_le (nesting (v.Row [])) 1024 ≡ true = ap (λ n. nat_le n 1024) f in
    ap (λ b. if b && nat_le (nesting (v.Row [])) 1024 then Done (v.Row []) s else Spent s.events) one
    ∙ ap (λ b. if b then Done (v.Row []) s else Spent s.events) two

pub reads-Unit : (env : List Value) → ReadsAs env (t.Make (op.Record []) []) (v.Row [])
reads-Unit env d p calls s = eval-Make d calls (op.Record []) [] env s ∙ p.plain (op.Record []) tt [] s ∙ unit_built s

pub unit_path : argument_path (v.Row []) ≡ []
unit_path = refl

-- ---- arguments

pub no_arguments : (slots : List Slot) (o : List ℕ) → WritesArguments slots [] o o
no_arguments slots o h env st = ([], refl, sym (append-nil o))

read_more : (env : List Value) (args : List Term) (a : Term) (xs : List Value) (x : Value) → ReadAll env args xs → ReadsAs env a x
    → ReadAll env (args ++ a ∷ []) (xs ++ x ∷ [])
read_more env [] a xs x e r = (x, [], ap (λ l. l ++ x ∷ []) e, r, refl)
read_more env (b ∷ args) a xs x (y, rest, e, h, hs) r = (y, rest ++ x ∷ [], ap (λ l. l ++ x ∷ []) e, h, read_more env args a rest x hs r)

paths_more : (xs : List Value) (x : Value) → flat_map argument_path (xs ++ x ∷ []) ≡ flat_map argument_path xs ++ argument_path x
paths_more [] x = append-nil (argument_path x)
paths_more (y ∷ xs) x = ap (λ p. argument_path y ++ p) (paths_more xs x) ∙ sym (append_assoc (argument_path y) (flat_map argument_path xs) (argument_path x))

pub arguments_more : (slots : List Slot) (args : List Term) (a : Term) (o p q : List ℕ) → WritesArguments slots args o p → WritesArgument slots a p q
    → WritesArguments slots (args ++ a ∷ []) o q
arguments_more slots args a o p q all one h env st =
    let (xs, reads, is) = all h env st in
    let (x, read, is') = one h env st in (
      xs ++ x ∷ [],
      read_more env args a xs x reads read,
      is' ∙ ap (λ z. z ++ argument_path x) is
          ∙ append_assoc o (flat_map argument_path xs) (argument_path x) ∙ ap (λ z. o ++ z) (sym (paths_more xs x)),
    )

read_long : (env : List Value) (args : List Term) (xs : List Value) → ReadAll env args xs → length xs ≡ length args
read_long env [] xs e = ap length e
read_long env (a ∷ args) xs (x, rest, e, h, hs) = let long = read_long env args rest hs in ap length e ∙ ap suc long

-- the pieces of an attribute that is the path of a call
pub call_written : (h : Handlers) (slots : List Slot) (name : List ℕ) (route count : ℕ) (args : List Term) (o o1 o2 o3 o4 o5 o6 : List ℕ)
    → count ≤ length args → o1 ≡ o ++ codes " " → o2 ≡ o1 ++ name → o3 ≡ o2 ++ codes "=\""
    → o4 ≡ o3 ++ names_path (slice_get h.routes route) → WritesArguments slots (take count args) o4 o5
    → o6 ≡ o5 ++ codes "\"" → WritesCall h slots name route count args o o6
call_written h slots name route count args o o1 o2 o3 o4 o5 o6 few e1 e2 e3 e4 all e6 env st =
    let (xs, reads, e5) = all h env st in
    let long : length xs ≡ count = read_long env (take count args) xs reads ∙ (let l = length-take count args in omega arith) in
    let names = names_path (slice_get h.routes route) in
    let its = flat_map argument_path xs in
    let whole = names ++ its in (
      xs,
      reads,
      long,
      e6 ∙ ap (λ z. z ++ codes "\"") (e5 ∙ ap (λ z. z ++ its) (e4 ∙ ap (λ z. z ++ names) (e3 ∙ ap (λ z. z ++ codes "=\"") (e2 ∙ ap (λ z. z ++ name) e1))))
          ∙ grouped o (codes " ") name (codes "=\"") names its (codes "\"")
          ∙ ap (λ z. o ++ (codes " " ++ name ++ codes "=\"" ++ z ++ codes "\"")) (sym (path_shows_itself h (record { route = route; args = xs }))),
    )
  where
    grouped : (o a b c d e f : List ℕ) → (((((o ++ a) ++ b) ++ c) ++ d) ++ e) ++ f ≡ o ++ ((((a ++ b) ++ c) ++ (d ++ e)) ++ f)
    grouped o a b c d e f = simp append_assoc

-- ---- links, fields and buttons

pub emits_link : (h : Handlers) (slots : List Slot) (route count : ℕ) (args : List Term) (o o1 o2 o3 o4 o5 : List ℕ) (r r1 r2 within deep : ℕ)
    → o1 ≡ o ++ codes "<a" → WritesCall h slots (codes "href") route count args o1 o2
    → ((path inner : List ℕ) → o2 ≡ o1 ++ attribute (codes "href") path → o4 ≡ o3 ++ inner → o5 ≡ o ++ link path inner) → 32 + r1 ≡ r → deep ≡ within + 1
    → EmitAll h slots (drop count args) o3 o4 r1 r2 within
    → Emits h slots (t.Make (op.Link route count) args) o o5 r r2 deep
emits_link h slots route count args o o1 o2 o3 o4 o5 r r1 r2 within deep opened call bytes room nests all env st =
    let (xs, reads, long, attr) = call env st in
    let w = all env st in
    let its : Call = record { route = route; args = xs } in
    let one = sizes_of_one (n.Link its w.nodes) in
    let two = size-Link its w.nodes in
    let three = nesting-Link its w.nodes in
    let four = w.adds.size in
    let five = w.adds.nesting in
    record {
      nodes = n.Link its w.nodes ∷ [];
      makes = subst (λ l. Makes env (t.Make (op.Link route count) l) (n.Link its w.nodes ∷ [])) (take-append-drop count args)
          (makes-Link env route count (take count args) (drop count args) xs w.nodes reads long w.makes);
      adds = record {
        bytes = bytes (path h its) (show_nodes h w.nodes) attr w.adds.bytes
            ∙ ap (λ z. o ++ z) (sym (append-nil (show_node h (n.Link its w.nodes)) ∙ show_node-Link h its w.nodes));
        size = omega arith;
        nesting = omega arith;
      };
    }

pub emits_input : (h : Handlers) (slots : List Slot) (kind : FieldKind) (name : Name) (text : List ℕ) (args : List Term) (value : Option (List ℕ))
    (o p : List ℕ) (r r1 r2 r3 : ℕ) → ReadsText slots args value → 64 + r1 ≡ r
    → length text + r2 ≡ r1 → optional_text_size value + r3 ≡ r2 → p ≡ o ++ show_field kind text value
    → Emits h slots (t.Make (op.Input kind name text) args) o p r r3 2
emits_input h slots kind name text args value o p r r1 r2 r3 reads e1 e2 e3 bytes env st =
    let (xs, all, is) = reads h env st in
    let one = sizes_of_one (n.Field kind text value) in
    record {
      nodes = n.Field kind text value ∷ [];
      makes = makes-Input env kind name text args xs value all is;
      adds = record { bytes = bytes ∙ ap (λ z. o ++ z) (sym (append-nil (show_field kind text value))); size = omega arith; nesting = omega arith };
    }

-- a unit behind the arguments of a call is not seen in its path
with_unit_path : (h : Handlers) (route : ℕ) (unit : Bool) (xs : List Value)
    → path h (record { route = route; args = with_unit unit xs }) ≡ path h (record { route = route; args = xs })
with_unit_path h route false xs = refl
with_unit_path h route true xs =
    ap (λ z. names_path (slice_get h.routes route) ++ z)
    (paths_more xs (v.Row []) ∙ ap (λ z. flat_map argument_path xs ++ z) unit_path ∙ append-nil (flat_map argument_path xs))

pub emits_submit : (h : Handlers) (slots : List Slot) (route count : ℕ) (unit : Bool) (args : List Term) (label : Option (List ℕ)) (o o1 o2 p : List ℕ)
    (r r1 r2 : ℕ) → ReadsText slots (drop count args) label → 32 + r1 ≡ r
    → optional_text_size label + r2 ≡ r1 → WritesCall h slots (codes "formaction") route count args o1 o2
    → ((path : List ℕ) → o2 ≡ o1 ++ attribute (codes "formaction") path → p ≡ o ++ submit path label)
    → Emits h slots (t.Make (op.Submit route count unit) args) o p r r2 2
emits_submit h slots route count unit args label o o1 o2 p r r1 r2 reads e1 e2 call bytes env st =
    let (xs, all, long, attr) = call env st in
    let (ys, rest, is) = reads h env st in
    let its : Call = record { route = route; args = with_unit unit xs } in
    let one = sizes_of_one (n.Submit its label) in
    let two = size-Submit its label in
    let three = nesting-Submit its label in
    let four : optional_nesting label ≤ 1 = small label in
    record {
      nodes = n.Submit its label ∷ [];
      makes = subst (λ l. Makes env (t.Make (op.Submit route count unit) l) (n.Submit its label ∷ [])) (take-append-drop count args)
          (makes-Submit env route count unit (take count args) (drop count args) xs ys label all long rest is);
      adds = record {
        bytes = bytes (path h its) (attr ∙ ap (λ z. o1 ++ attribute (codes "formaction") z) (sym (with_unit_path h route unit xs)))
            ∙ ap (λ z. o ++ z) (sym (append-nil (show_node h (n.Submit its label)) ∙ show_node-Submit h its label));
        size = omega arith;
        nesting = omega arith;
      };
    }
  where
    small : (label : Option (List ℕ)) → optional_nesting label ≤ 1
    small None = omega arith
    small (Some text) = omega arith

-- ---- the text of an argument

pub no_text : (slots : List Slot) (args : List Term) → args ≡ [] → ReadsText slots args None
no_text slots args e h env st = subst (λ l. (xs : List Value) × ReadAll env l xs × (optional_text xs ≡ Some None)) (sym e) ([], refl, refl)

pub one_text : (slots : List Slot) (args : List Term) (a : Term) (text copy : List ℕ) → args ≡ a ∷ [] → Finds slots a (v.Str text) → copy ≡ text
    → ReadsText slots args (Some copy)
one_text slots args a text copy e f same h env st =
    subst (λ l. (xs : List Value) × ReadAll env l xs × (optional_text xs ≡ Some (Some copy))) (sym e)
    (v.Str text ∷ [], (v.Str text, [], refl, f h env st, refl), ap (λ z. Some (Some z)) (sym same))

-- a text that a term is, and one that stands there
pub text_here : (slots : List Slot) (a : Term) (text shown : List ℕ) → a ≡ t.Str text → shown ≡ text → Finds slots a (v.Str shown)
text_here slots a text shown e same h env st =
    subst (λ z. ReadsAs env z (v.Str shown)) (sym e) (subst (λ z. ReadsAs env (t.Str text) (v.Str z)) (sym same) (reads-Str text env))

pub text_found : (slots : List Slot) (a : Term) (x : Value) (text shown : List ℕ) → Finds slots a x → x ≡ v.Str text → shown ≡ text
    → Finds slots a (v.Str shown)
text_found slots a x text shown f is same = subst (Finds slots a) (is ∙ ap v.Str (sym same)) f

-- a term that is a constant
pub constant_read : (a b : Term) (x : Value) → a ≡ b → ((env : List Value) → ReadsAs env b x) → (env : List Value) → ReadsAs env a x
constant_read a b x e r env = subst (λ z. ReadsAs env z x) (sym e) (r env)

-- a constant whose segment was written, and the record without fields, whose segment is empty
pub constant_pushed : {A E : Type 0} (r : Result A E) (slots : List Slot) (a b : Term) (x y : Value) (o p : List ℕ) → a ≡ b
    → ((env : List Value) → ReadsAs env b y) → x ≡ y → IfOk r (λ _. p ≡ o ++ argument_path x) → IfOk r (λ _. WritesArgument slots a o p)
constant_pushed (Ok u) slots a b x y o p is reads same e =
    argument_read slots a y o p (constant_read a b y is reads) (e ∙ ap (λ z. o ++ argument_path z) same)
constant_pushed (Err f) slots a b x y o p is reads same e = tt

pub path_along : {A E : Type 0} (r : Result A E) (x y : Value) (o p : List ℕ) → x ≡ y → IfOk r (λ _. p ≡ o ++ argument_path x)
    → IfOk r (λ _. p ≡ o ++ argument_path y)
path_along (Ok u) x y o p same e = e ∙ ap (λ z. o ++ argument_path z) same
path_along (Err f) x y o p same e = tt

pub unit_pushed : (slots : List Slot) (a : Term) (made : Op) (parts : List Term) (o : List ℕ) → a ≡ t.Make made parts
    → (made ≡ op.Record []) × (parts ≡ []) → WritesArgument slots a o o
unit_pushed slots a made parts o is (e, f) =
    argument_read slots a (v.Row []) o o (constant_read a (t.Make (op.Record []) []) (v.Row []) (is ∙ ap₂ t.Make e f) reads-Unit)
    (sym (append-nil o) ∙ ap (λ z. o ++ z) (sym unit_path))
