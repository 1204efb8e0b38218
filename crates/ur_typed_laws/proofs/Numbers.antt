-- Statements are numbered in order, and what is filled later was filled before.
use Rattle.std.proofs.lemmas.List.{length-append, append-nil}
use Rattle.std.proofs.lemmas.Option.{slice_get-map}
use Rattle.std.proofs.Common.{arith, ◌≡◌, ◌∙◌, refl, sym, ap, ap₂, subst, Option, Some, None, List, [], ◌∷◌, ◌++◌, ℕ, zero, suc, ◌+◌, length}
use Rattle.std.specs.Prelude.{map, set, slice_get, option_map}
use mathlib.Core.List.{append_assoc}
use Rattle.ur_sql.specs.declared.query.Query.{Query}
use Rattle.ur_sql.specs.declared.change.Change.{Change}
use Rattle.ur_sql.specs.declared.change.Action.TheVariants as action
use Rattle.ur_tree.specs.Occurrences.{Occurrence, link, action as acts, site, update}
use Rattle.ur_typed.specs.Resolves.{Statements}
use Rattle.ur_typed.specs.Typed.{sites_in, updates_in, CountsFrom}
use Rattle.ur_typed_rules.specs.Scopes.{World}
use Rattle.ur_typed.specs.Rules.{Sites}
use Rattle.ur_typed_laws.specs.Judged.{Fills, AreFilled, Numbered}
use Rattle.ur_typed.proofs.Shapes.{front_get}

-- ---- numbers in order

pub sites_of_both : (a b : List Occurrence) → sites_in (a ++ b) ≡ sites_in a ++ sites_in b
sites_of_both [] b = refl
sites_of_both (link n ∷ a) b = sites_of_both a b
sites_of_both (acts n ∷ a) b = sites_of_both a b
sites_of_both (site n ∷ a) b = ap (λ z. n ∷ z) (sites_of_both a b)
sites_of_both (update n ∷ a) b = sites_of_both a b

pub updates_of_both : (a b : List Occurrence) → updates_in (a ++ b) ≡ updates_in a ++ updates_in b
updates_of_both [] b = refl
updates_of_both (link n ∷ a) b = updates_of_both a b
updates_of_both (acts n ∷ a) b = updates_of_both a b
updates_of_both (site n ∷ a) b = updates_of_both a b
updates_of_both (update n ∷ a) b = ap (λ z. n ∷ z) (updates_of_both a b)

counts_on : (n : ℕ) (a b : List ℕ) → CountsFrom n a → CountsFrom (n + length a) b → CountsFrom n (a ++ b)
counts_on n [] b x y = let i : n + length {A = ℕ} [] ≡ n = omega arith in subst (λ z. CountsFrom z b) i y
counts_on n (k ∷ a) b x y = let i : n + length (k ∷ a) ≡ (n + 1) + length a = omega arith in (x.0, counts_on (n + 1) a b x.1 (subst (λ z. CountsFrom z b) i y))

-- the numbers behind those that are there
counts_behind : {A : Type 0} (x y xs : List A) (a b : List ℕ) → y ≡ x ++ xs → length a ≡ length xs → CountsFrom (length x) a → CountsFrom (length y) b → CountsFrom (length x) (a ++ b)
counts_behind x y xs a b i l ca cb =
    let n : length y ≡ length x + length a = ap length i ∙ (length-append x xs ∙ ap (λ z. length x + z) (sym l)) in
    counts_on (length x) a b ca (subst (λ z. CountsFrom z b) n cb)

lengths_of_both : {A : Type 0} (a b : List ℕ) (x y : List A) → length a ≡ length x → length b ≡ length y → length (a ++ b) ≡ length (x ++ y)
lengths_of_both a b x y i j = length-append a b ∙ (ap₂ (λ u v. u + v) i j ∙ sym (length-append x y))

joined_rest : {A : Type 0} (x y z xs ys : List A) → y ≡ x ++ xs → z ≡ y ++ ys → z ≡ x ++ (xs ++ ys)
joined_rest x y z xs ys i j = j ∙ (ap (λ v. v ++ ys) i ∙ append_assoc x xs ys)

pub filled_both : {A : Type 0} (x y : List (Option A)) → AreFilled x → AreFilled y → AreFilled (x ++ y)
filled_both [] y f g = g
filled_both (None ∷ x) y f g = absurd f
filled_both (Some a ∷ x) y f g = filled_both x y f g

pub numbered_none : (st : Sites) → Numbered st [] st
numbered_none st = record {
  queries = [];
  changes = [];
  all_queries = sym (append-nil st.queries);
  all_changes = sym (append-nil st.changes);
  filled_queries = tt;
  filled_changes = tt;
  sites = tt;
  updates = tt;
  how_many_sites = refl;
  how_many_updates = refl;
}

pub numbered_both : {st su sv : Sites} {a b : List Occurrence} → Numbered st a su → Numbered su b sv → Numbered st (a ++ b) sv
numbered_both {st} {su} {sv} {a} {b} x y = record {
  queries = x.queries ++ y.queries;
  changes = x.changes ++ y.changes;
  all_queries = joined_rest st.queries su.queries sv.queries x.queries y.queries x.all_queries y.all_queries;
  all_changes = joined_rest st.changes su.changes sv.changes x.changes y.changes x.all_changes y.all_changes;
  filled_queries = filled_both x.queries y.queries x.filled_queries y.filled_queries;
  filled_changes = filled_both x.changes y.changes x.filled_changes y.filled_changes;
  sites = subst (CountsFrom (length st.queries)) (sym (sites_of_both a b)) (counts_behind st.queries su.queries x.queries (sites_in a) (sites_in b) x.all_queries x.how_many_sites x.sites y.sites);
  updates = subst (CountsFrom (length st.changes)) (sym (updates_of_both a b)) (counts_behind st.changes su.changes x.changes (updates_in a) (updates_in b) x.all_changes x.how_many_updates x.updates y.updates);
  how_many_sites = ap length (sites_of_both a b) ∙ lengths_of_both (sites_in a) (sites_in b) x.queries y.queries x.how_many_sites y.how_many_sites;
  how_many_updates = ap length (updates_of_both a b) ∙ lengths_of_both (updates_in a) (updates_in b) x.changes y.changes x.how_many_updates y.how_many_updates;
}

pub numbered_end : {st su : Sites} {a : List Occurrence} → Numbered st a su → Numbered st (a ++ []) su
numbered_end {st} {su} {a} x = subst (λ z. Numbered st z su) (sym (append-nil a)) x

-- links and actions take no number
pub numbered_link : {st su : Sites} {a : List Occurrence} (n : ℕ) → Numbered st a su → Numbered st (link n ∷ a) su
numbered_link n x = record {
  queries = x.queries;
  changes = x.changes;
  all_queries = x.all_queries;
  all_changes = x.all_changes;
  filled_queries = x.filled_queries;
  filled_changes = x.filled_changes;
  sites = x.sites;
  updates = x.updates;
  how_many_sites = x.how_many_sites;
  how_many_updates = x.how_many_updates;
}

pub numbered_action : {st su : Sites} {a : List Occurrence} (n : ℕ) → Numbered st a su → Numbered st (acts n ∷ a) su
numbered_action n x = record {
  queries = x.queries;
  changes = x.changes;
  all_queries = x.all_queries;
  all_changes = x.all_changes;
  filled_queries = x.filled_queries;
  filled_changes = x.filled_changes;
  sites = x.sites;
  updates = x.updates;
  how_many_sites = x.how_many_sites;
  how_many_updates = x.how_many_updates;
}

-- ---- what is filled

pub fills_before : {w : World} {d : Statements} {st su : Sites} {a : List Occurrence} → Numbered st a su → Fills w d su → Fills w d st
fills_before {w} {d} {st} {su} x f = record {
  names = f.names;
  queries = λ n q h. f.queries n q (ap (λ z. slice_get z n) x.all_queries ∙ front_get st.queries x.queries n (Some q) h);
  changes = λ n u h. f.changes n u (ap (λ z. slice_get z n) x.all_changes ∙ front_get st.changes x.changes n (Some u) h);
}

-- a project that has just these statements
abbrev no_query : Query
no_query = record { params = []; fields = []; «from» = []; on = []; filter = None; group = []; order = []; limit = None; offset = None }

abbrev no_change : Change
no_change = record { params = []; table = 0; columns = []; action = action.Delete None }

abbrev or_query : Option Query → Query
or_query (Some q) = q
or_query None = no_query

abbrev or_change : Option Change → Change
or_change (Some u) = u
or_change None = no_change

abbrev pub filled : World → Sites → Statements
filled w st = record { names = w.fields; queries = map or_query st.queries; changes = map or_change st.changes }

pub fills_filled : (w : World) (st : Sites) → Fills w (filled w st) st
fills_filled w st = record {
  names = refl;
  queries = λ n q h. slice_get-map or_query st.queries n ∙ ap (option_map or_query) h;
  changes = λ n u h. slice_get-map or_change st.changes n ∙ ap (option_map or_change) h;
}

-- ---- the slot of a statement

-- the slot behind `xs`
pub set_slot : {A : Type 0} (xs : List (Option A)) (ys : List (Option A)) (a : A) → set (xs ++ None ∷ ys) (length xs) (Some a) ≡ xs ++ Some a ∷ ys
set_slot [] ys a = refl
set_slot (x ∷ xs) ys a = ap (λ z. x ∷ z) (set_slot xs ys a)

pub get_slot : {A : Type 0} (xs : List (Option A)) (ys : List (Option A)) (a : A) → slice_get (xs ++ Some a ∷ ys) (length xs) ≡ Some (Some a)
get_slot [] ys a = refl
get_slot (x ∷ xs) ys a = get_slot xs ys a

-- what stood elsewhere stands there behind the filling
pub get_else : {A : Type 0} (xs : List (Option A)) (ys : List (Option A)) (a : A) (n : ℕ) (b : A) → slice_get (xs ++ None ∷ ys) n ≡ Some (Some b) → slice_get (xs ++ Some a ∷ ys) n ≡ Some (Some b)
get_else [] ys a zero b h = cc
get_else [] ys a (suc n) b h = h
get_else (x ∷ xs) ys a zero b h = h
get_else (x ∷ xs) ys a (suc n) b h = get_else xs ys a n b h
