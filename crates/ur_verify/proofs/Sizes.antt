-- The number of terms in a term: its parts are smaller.
use Rattle.std.proofs.Common.{◌≡◌, ◌∙◌, ◌<◌, ◌≤◌, ◌+◌, ◌*◌, ℕ, zero, suc, List, [], ◌∷◌, length, get_or, refl, ap, arith}
use mathlib.Core.Former.{Count}
use denote.Hole.Carrier
use Rattle.ur_terms.specs.declared.term.Op.{Op}
use Rattle.ur_terms.specs.declared.term.Branch.{Branch}
use Rattle.ur_terms.specs.declared.term.Term.TheBlock as block
use Rattle.ur_terms.specs.declared.term.Term.{Term, Row_of-Term, end_of-Term, more_of-Term, Row_of-Branch, end_of-Branch, more_of-Branch, items-the_row-Term, items_hidden-the_row-Term-0, items-the_row-Branch, items_hidden-the_row-Branch-2}
use Rattle.ur_terms.specs.declared.term.Term.TheVariants as t
use Rattle.ur_verify.proofs.Rows.{row_of, branches_of}

abbrev mutual
  pub size : Term → ℕ
  size (t.Variable i) = 1
  size (t.Int i) = 1
  size (t.Str x) = 1
  size (t.Bool b) = 1
  size (t.Make' op _ row) = row_size row + 1
  size (t.Call' f _ row) = row_size row + 1
  size (t.Let' _ row _ body) = row_size row + row_size body + 1
  size (t.If' _ x _ a _ b) = row_size x + row_size a + row_size b + 1
  size (t.Case' _ x _ branches) = row_size x + branches_size branches + 1
  size (t.Each' _ rows _ body) = row_size rows + row_size body + 1

  pub row_size : {m : _} → Row_of-Term m → ℕ
  row_size end_of-Term = 0
  row_size (more_of-Term x rest) = size x + row_size rest

  pub branches_size : {m : _} → Row_of-Branch m → ℕ
  branches_size end_of-Branch = 0
  branches_size (more_of-Branch pattern body rest) = size body + branches_size rest

abbrev pub sizes : List Term → ℕ
sizes [] = 0
sizes (x ∷ xs) = size x + sizes xs

abbrev pub branch_sizes : List Branch → ℕ
branch_sizes [] = 0
branch_sizes (b ∷ bs) = size b.body + branch_sizes bs

row_is : (m : Count) (row : Row_of-Term m) → row_size row ≡ sizes (items-the_row-Term m row)
row_is m end_of-Term = refl
row_is m (more_of-Term x rest) = ap (λ n. size x + n) (row_is _ rest)

branches_are : (m : Count) (row : Row_of-Branch m) → branches_size row ≡ branch_sizes (items-the_row-Branch m row)
branches_are m end_of-Branch = refl
branches_are m (more_of-Branch pattern body rest) = ap (λ n. size body + n) (branches_are _ rest)

-- ---- each term with parts

make_size : (o : Op) (args : List Term) → size (t.Make o args) ≡ sizes args + 1
make_size o args =
    let row = row_of (t.Make o args) in
    ap (λ n. n + 1) (row_is row.0 row.1 ∙ ap sizes (items_hidden-the_row-Term-0 args))

call_size : (f : ℕ) (args : List Term) → size (t.Call f args) ≡ sizes args + 1
call_size f args =
    let row = row_of (t.Call f args) in
    ap (λ n. n + 1) (row_is row.0 row.1 ∙ ap sizes (items_hidden-the_row-Term-0 args))

alone : (a : ℕ) → a + 0 ≡ a
alone a = omega arith

let_size : (args : List Term) (body : Term) → size (t.Let args body) ≡ sizes args + size body + 1
unfolding block.hidden-the_row-Term-1 Carrier.hidden
let_size args body =
    let row = row_of (t.Let args body) in
    ap (λ n. n + (size body + 0) + 1) (row_is row.0 row.1 ∙ ap sizes (items_hidden-the_row-Term-0 args)) ∙ ap (λ n. sizes args + n + 1) (alone (size body))

if_size : (x a b : Term) → size (t.If x a b) ≡ size x + size a + size b + 1
unfolding block.hidden-the_row-Term-1 Carrier.hidden
if_size x a b =
    ap (λ n. n + (size a + 0) + (size b + 0) + 1) (alone (size x)) ∙ ap (λ n. size x + n + (size b + 0) + 1) (alone (size a)) ∙ ap (λ n. size x + size a + n + 1) (alone (size b))

case_size : (x : Term) (bs : List Branch) → size (t.Case x bs) ≡ size x + branch_sizes bs + 1
unfolding block.hidden-the_row-Term-1 Carrier.hidden
case_size x bs =
    let row = branches_of (t.Case x bs) in
    ap (λ n. (size x + 0) + n + 1) (branches_are row.0 row.1 ∙ ap branch_sizes (items_hidden-the_row-Branch-2 bs)) ∙ ap (λ n. n + branch_sizes bs + 1) (alone (size x))

each_size : (rows body : Term) → size (t.Each rows body) ≡ size rows + size body + 1
unfolding block.hidden-the_row-Term-1 Carrier.hidden
each_size rows body = ap (λ n. n + (size body + 0) + 1) (alone (size rows)) ∙ ap (λ n. size rows + n + 1) (alone (size body))

-- ---- calls with parts

pub make_smaller : (a : Term) (o : Op) (args : List Term) (n : ℕ) → 5 * size a ≡ n → a ≡ t.Make o args → 5 * sizes args + 2 < n
make_smaller a o args n h is = let e : size a ≡ sizes args + 1 = ap size is ∙ make_size o args in omega (arith, h, e)

pub call_smaller : (a : Term) (f : ℕ) (args : List Term) (n : ℕ) → 5 * size a ≡ n → a ≡ t.Call f args → 5 * sizes args + 2 < n
call_smaller a f args n h is = let e : size a ≡ sizes args + 1 = ap size is ∙ call_size f args in omega (arith, h, e)

pub let_smaller : (a : Term) (args : List Term) (body : Term) (n : ℕ) → 5 * size a ≡ n → a ≡ t.Let args body → 5 * (sizes args + size body) + 2 < n
let_smaller a args body n h is = let e : size a ≡ sizes args + size body + 1 = ap size is ∙ let_size args body in omega (arith, h, e)

pub if_smaller : (a x y z : Term) (n : ℕ) → 5 * size a ≡ n → a ≡ t.If x y z → 5 * (size x + size y + size z) + 2 < n
if_smaller a x y z n h is = let e : size a ≡ size x + size y + size z + 1 = ap size is ∙ if_size x y z in omega (arith, h, e)

pub case_smaller : (a x : Term) (bs : List Branch) (n : ℕ) → 5 * size a ≡ n → a ≡ t.Case x bs → 5 * (size x + branch_sizes bs) + 4 < n
case_smaller a x bs n h is = let e : size a ≡ size x + branch_sizes bs + 1 = ap size is ∙ case_size x bs in omega (arith, h, e)

pub each_smaller : (a rows body : Term) (n : ℕ) → 5 * size a ≡ n → a ≡ t.Each rows body → 5 * (size rows + size body) + 2 < n
each_smaller a rows body n h is = let e : size a ≡ size rows + size body + 1 = ap size is ∙ each_size rows body in omega (arith, h, e)

-- ---- one of a list

size_at : (xs : List Term) (i : ℕ) (x : Term) → i < length xs → x ≡ get_or xs i x → size x ≤ sizes xs
size_at [] i x h e = absurd (omega (arith, h))
size_at (y ∷ xs) zero x h e = let s : size x ≡ size y = ap size e in omega (arith, s)
size_at (y ∷ xs) (suc i) x h e = let s = size_at xs i x (omega (arith, h)) e in omega (arith, s)

branch_at : (bs : List Branch) (i : ℕ) (b : Branch) → i < length bs → b ≡ get_or bs i b → size b.body ≤ branch_sizes bs
branch_at [] i b h e = absurd (omega (arith, h))
branch_at (y ∷ bs) zero b h e = let s : size b.body ≡ size y.body = ap (λ z. size z.body) e in omega (arith, s)
branch_at (y ∷ bs) (suc i) b h e = let s = branch_at bs i b (omega (arith, h)) e in omega (arith, s)

pub one_smaller : (xs terms : List Term) (i : ℕ) (x : Term) (n : ℕ) → 5 * sizes terms + 1 ≡ n → xs ≡ terms → i < length xs → x ≡ get_or xs i x → 5 * size x < n
one_smaller xs terms i x n h is lt e = let s = size_at xs i x lt e in let m : sizes xs ≡ sizes terms = ap sizes is in omega (arith, h, s, m)

pub branch_smaller : (bs branches : List Branch) (i : ℕ) (b : Branch) (n : ℕ) → 5 * branch_sizes branches + 3 ≡ n → bs ≡ branches → i < length bs → b ≡ get_or bs i b → 5 * size b.body + 2 < n
branch_smaller bs branches i b n h is lt e = let s = branch_at bs i b lt e in let m : branch_sizes bs ≡ branch_sizes branches = ap branch_sizes is in omega (arith, h, s, m)

pub branch_less : (bs branches : List Branch) (i : ℕ) (b : Branch) (n : ℕ) → 5 * branch_sizes branches + 3 ≡ n → bs ≡ branches → i < length bs → b ≡ get_or bs i b → 5 * size b.body + 1 < n
branch_less bs branches i b n h is lt e = let s = branch_smaller bs branches i b n h is lt e in omega (arith, s)

-- ---- parts in calls

pub within : (a b n : ℕ) → b ≡ n → a < b → a < n
within a b n e h = omega (arith, e, h)
