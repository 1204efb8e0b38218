-- Which brackets the slots of a rule open and close, and that the tokens that fill them have theirs in pairs.
use Rattle.std.specs.Prelude.{◌≡◌, ℕ, zero, suc, Bool, true, false, not, ◌&&◌, ◌||◌, ◌+◌, ◌<◌, ◌≤◌, List, [], ◌∷◌, ◌++◌, Option, Some, None, refl}
use Rattle.std.proofs.Common.{arith, sym, inl, inr, ap, subst, ◌∙◌}
use Rattle.std.proofs.lemmas.List.{append-nil}
use Rattle.ur_lex.specs.declared.token.TokenKind.{TokenKind}
use Rattle.ur_lex.specs.declared.token.Lexeme.{Lexeme}
use Rattle.ur_parse_rules.specs.KindNumbers.{is_one}
use Rattle.ur_parse_rules.specs.Places.{starts}
use Rattle.ur_parse_rules.specs.Rules.{Slot, mark, word, name, number, among, one, Values, Rule, Sym, part, filled, AnyOf, Builds, Spells}
use Rattle.ur_parse_rules.proofs.Inversions.{height, height-subst, nothing-out, token-out, no_plain, no_spelled, no_named, no_counted, part-out, produced-out, append, by, wider}
use Rattle.ur_parse_rules.specs.Quoted.{expressions, raw, Code}
use Rattle.ur_parse_rules.specs.ConParts as c
use Rattle.ur_parse_rules.specs.ExpParts as e
use Rattle.ur_parse_rules.specs.SqlParts as s
use Rattle.ur_parse_rules.specs.XmlParts as x
use Rattle.ur_parse_rules.specs.CodeParts.{pieces, piece}
use Rattle.ur_parse_rules.specs.Parts.{Part, Tree, of_con, of_exp, of_sql, of_xml, of_decl, of_quote, of_code}
use Rattle.ur_parse_rules.specs.Ends.{plain_kinds, symbols}
use Rattle.ur_parse_rules.specs.Codes.{begins_well}
use Rattle.ur_parse_rules.specs.Language.{language, rules}
use Rattle.ur_parse_rules.proofs.Tests.{false_true, and_left, and_right}
use Rattle.ur_parse_rules.proofs.RawCode.{code_same}
use Rattle.ur_parse_rules.proofs.Checks.{part_begun}
use Rattle.ur_parse_rules.proofs.Starts.{first, empty}
use Rattle.ur_parse_rules.proofs.Firsts.{fit}
use Rattle.ur_parse_rules.proofs.Watches.{no_bracket}
use Rattle.ur_parse_rules.proofs.Leads.{hits}
use Rattle.ur_parse_rules.proofs.Choice.{bracket, a_bracket}
use Rattle.ur_parse_rules.specs.Classes.{member}
use Rattle.ur_lex.specs.declared.token.Symbol.TheVariants as symbol
use Rattle.ur_parse_embed_code.proofs.Pairs.{Bracket, round, square, curly, is_left, is_right, Pieces, no_pieces, Closing, plain_before, left_before, right_before, behind}

-- ---- what a token does to the brackets that are open

pub data Role : Type 0 where
  opens : Bracket → Role
  shuts : Bracket → Role
  nothing : Role
  unknown : Role

abbrev role_by : (l m n r u v p : Bool) → Role
role_by true _ _ _ _ _ _ = opens round
role_by false true _ _ _ _ _ = opens square
role_by false false true _ _ _ _ = opens curly
role_by false false false true _ _ _ = shuts round
role_by false false false false true _ _ = shuts square
role_by false false false false false true _ = shuts curly
role_by false false false false false false true = nothing
role_by false false false false false false false = unknown

abbrev pub role : TokenKind → Role
role k = role_by (is_left round k) (is_left square k) (is_left curly k) (is_right round k) (is_right square k) (is_right curly k) (is_one plain_kinds k)

abbrev pub Says : Role → TokenKind → Type 0
Says (opens b) k = is_left b k ≡ true
Says (shuts b) k = is_right b k ≡ true
Says nothing k = is_one plain_kinds k ≡ true
Says unknown k = Unit {0}

says_by : (k : TokenKind) (l m n r u v p : Bool) → is_left round k ≡ l → is_left square k ≡ m → is_left curly k ≡ n → is_right round k ≡ r → is_right square k ≡ u → is_right curly k ≡ v → is_one plain_kinds k ≡ p →
    Says (role_by l m n r u v p) k
says_by k true _ _ _ _ _ _ a b c d e f g = a
says_by k false true _ _ _ _ _ a b c d e f g = b
says_by k false false true _ _ _ _ a b c d e f g = c
says_by k false false false true _ _ _ a b c d e f g = d
says_by k false false false false true _ _ a b c d e f g = e
says_by k false false false false false true _ a b c d e f g = f
says_by k false false false false false false true a b c d e f g = g
says_by k false false false false false false false a b c d e f g = tt

pub role_says : (k : TokenKind) → Says (role k) k
role_says k = says_by k _ _ _ _ _ _ _ refl refl refl refl refl refl refl

-- ---- slots

abbrev same_bracket : Bracket → Bracket → Bool
same_bracket round round = true
same_bracket square square = true
same_bracket curly curly = true
same_bracket _ _ = false

same_is : (b d : Bracket) → same_bracket b d ≡ true → b ≡ d
same_is round round h = refl
same_is round square h = false_true h
same_is round curly h = false_true h
same_is square round h = false_true h
same_is square square h = refl
same_is square curly h = false_true h
same_is curly round h = false_true h
same_is curly square h = false_true h
same_is curly curly h = refl

-- the innermost is closed, and the others go on
abbrev shut : Bracket → (List Bracket → Bool) → List Bracket → Bool
shut b f [] = false
shut b f (d ∷ bs) = same_bracket b d && f bs

abbrev pub turn : Role → (List Bracket → Bool) → List Bracket → Bool
turn (opens b) f bs = f (b ∷ bs)
turn (shuts b) f bs = shut b f bs
turn nothing f bs = f bs
turn unknown f bs = false

-- the bracket that a part closes behind itself, if it does
abbrev pub closer : Part → Option Bracket
closer (of_con c.row) = Some square
closer (of_con c.row_tail) = Some square
closer (of_con c.fields) = Some curly
closer (of_con c.fields_tail) = Some curly
closer (of_exp e.bracketed) = Some square
closer (of_exp e.nil_end) = Some square
closer (of_exp e.paren_rest) = Some round
closer (of_exp e.fields) = Some curly
closer (of_exp e.fields_tail) = Some curly
closer (of_exp e.param_rest) = Some round
closer (of_sql q s.columns_end) = Some round
closer (of_sql q s.values_end) = Some round
closer _ = None

abbrev pub listed : Option Bracket → List Bracket
listed None = []
listed (Some b) = b ∷ []

-- the parts that stand in an expression
abbrev pub inside : Part → Bool
inside (of_con p) = true
inside (of_exp p) = true
inside (of_sql expressions p) = true
inside (of_xml expressions p) = true
inside (of_quote expressions) = true
inside _ = false

abbrev pub pass : Option Bracket → (List Bracket → Bool) → List Bracket → Bool
pass None f bs = f bs
pass (Some b) f bs = shut b f bs

-- just these brackets are closed by the slots
abbrev pub walk : List (Slot Part) → List Bracket → Bool
walk [] [] = true
walk [] (b ∷ bs) = false
walk (mark k ∷ slots) bs = turn (role k) (walk slots) bs
walk (word k w ∷ slots) bs = turn (role k) (walk slots) bs
walk (name k ok ∷ slots) bs = turn (role k) (walk slots) bs
walk (number ∷ slots) bs = walk slots bs
walk (among ks ∷ slots) bs = false
walk (one p ∷ slots) bs = inside p && pass (closer p) (walk slots) bs

abbrev pub walks : {T : Type 0} → List (Rule Tree T) → List Bracket → Bool
walks [] bs = true
walks (r ∷ rs) bs = walk r.slots bs && walks rs bs

-- ---- each part closes its bracket

abbrev pub Checked : Part → Type 0
Checked p = walks (rules p) (listed (closer p)) ≡ true

con_checked : (p : c.ConPart) → Checked (of_con p)
con_checked c.kind = refl
con_checked c.kind_atom = refl
con_checked c.kind_tail = refl
con_checked (c.con place) = refl
con_checked (c.arrow keys) = refl
con_checked (c.arrow_tail keys) = refl
con_checked (c.concat keys) = refl
con_checked (c.concat_tail keys) = refl
con_checked (c.app keys) = refl
con_checked (c.args true) = refl
con_checked (c.args false) = refl
con_checked (c.arg true) = refl
con_checked (c.arg false) = refl
con_checked (c.atom true) = refl
con_checked (c.atom false) = refl
con_checked c.field_name = refl
con_checked c.row = refl
con_checked c.row_field = refl
con_checked c.row_value = refl
con_checked c.row_tail = refl
con_checked c.fields = refl
con_checked c.record_field = refl
con_checked c.fields_tail = refl
con_checked c.con_param = refl

operand_checked : (l : e.Level) → Checked (of_exp (e.operand l))
operand_checked e.disjunction = refl
operand_checked e.conjunction = refl
operand_checked e.append = refl
operand_checked e.sum = refl
operand_checked e.product = refl

step_checked : (l : e.Level) → Checked (of_exp (e.left_step l))
step_checked e.disjunction = refl
step_checked e.conjunction = refl
step_checked e.append = refl
step_checked e.sum = refl
step_checked e.product = refl

exp_checked : (p : e.ExpPart) → Checked (of_exp p)
exp_checked e.exp = refl
exp_checked e.rest = refl
exp_checked e.line = refl
exp_checked e.lambda = refl
exp_checked e.bar = refl
exp_checked e.branches = refl
exp_checked e.more_branches = refl
exp_checked (e.left l) = refl
exp_checked (e.operand l) = operand_checked l
exp_checked (e.left_tail l) = refl
exp_checked (e.left_step l) = step_checked l
exp_checked e.comparison = refl
exp_checked e.comparison_tail = refl
exp_checked e.cons = refl
exp_checked e.cons_tail = refl
exp_checked e.negative = refl
exp_checked e.app = refl
exp_checked e.args = refl
exp_checked e.arg = refl
exp_checked e.bracketed = refl
exp_checked e.head = refl
exp_checked (e.post head) = refl
exp_checked (e.base head) = refl
exp_checked e.capital_rest = refl
exp_checked e.member = refl
exp_checked e.nil_end = refl
exp_checked e.dot = refl
exp_checked e.dots = refl
exp_checked e.paren_rest = refl
exp_checked e.field = refl
exp_checked e.fields = refl
exp_checked e.fields_tail = refl
exp_checked e.let_val = refl
exp_checked e.let_vals = refl
exp_checked e.removed = refl
exp_checked e.binder = refl
exp_checked e.param = refl
exp_checked e.param_rest = refl
exp_checked e.lambda_param = refl
exp_checked e.lambda_params = refl
exp_checked e.pat = refl
exp_checked e.pat_cons = refl
exp_checked e.pat_rest = refl
exp_checked e.pat_argument = refl

sql_operand_checked : (bare : Bool) (l : s.SqlLevel) → Checked (of_sql expressions (s.operand bare l))
sql_operand_checked bare s.disjunction = refl
sql_operand_checked bare s.conjunction = refl
sql_operand_checked bare s.sum = refl
sql_operand_checked bare s.product = refl

sql_step_checked : (bare : Bool) (l : s.SqlLevel) → Checked (of_sql expressions (s.left_step bare l))
sql_step_checked bare s.disjunction = refl
sql_step_checked bare s.conjunction = refl
sql_step_checked bare s.sum = refl
sql_step_checked bare s.product = refl

column_checked : (bare : Bool) → Checked (of_sql expressions (s.column bare))
column_checked true = refl
column_checked false = refl

sql_checked : (p : s.SqlPart) → Checked (of_sql expressions p)
sql_checked (s.sexp bare) = refl
sql_checked (s.left bare l) = refl
sql_checked (s.operand bare l) = sql_operand_checked bare l
sql_checked (s.left_tail bare l) = refl
sql_checked (s.left_step bare l) = sql_step_checked bare l
sql_checked (s.negation bare) = refl
sql_checked (s.comparison bare) = refl
sql_checked (s.comparison_tail bare) = refl
sql_checked s.is_rest = refl
sql_checked (s.negative bare) = refl
sql_checked (s.atom bare) = refl
sql_checked (s.column bare) = column_checked bare
sql_checked s.qualifier = refl
sql_checked s.anti = refl
sql_checked s.name = refl
sql_checked s.query = refl
sql_checked s.selection = refl
sql_checked s.selected = refl
sql_checked s.more_selected = refl
sql_checked s.aggregate = refl
sql_checked s.item = refl
sql_checked s.alias = refl
sql_checked s.more_items = refl
sql_checked (s.filter bare) = refl
sql_checked s.group = refl
sql_checked s.more_columns = refl
sql_checked s.order = refl
sql_checked s.order_key = refl
sql_checked s.direction = refl
sql_checked s.more_keys = refl
sql_checked s.limit = refl
sql_checked s.offset = refl
sql_checked s.amount = refl
sql_checked s.change = refl
sql_checked s.columns_end = refl
sql_checked s.values_end = refl
sql_checked s.assignment = refl
sql_checked s.more_assignments = refl

xml_checked : (p : x.XmlPart) → Checked (of_xml expressions p)
xml_checked x.literal = refl
xml_checked x.parts = refl
xml_checked x.one_part = refl
xml_checked x.element = refl
xml_checked x.element_end = refl
xml_checked x.tag = refl
xml_checked x.tag_field = refl
xml_checked x.tag_name = refl
xml_checked x.attrs = refl
xml_checked x.attr = refl
xml_checked x.attr_value = refl

pub checked : (p : Part) → inside p ≡ true → Checked p
checked (of_con p) h = con_checked p
checked (of_exp p) h = exp_checked p
checked (of_sql expressions p) h = sql_checked p
checked (of_sql raw p) h = false_true h
checked (of_xml expressions p) h = xml_checked p
checked (of_xml raw p) h = false_true h
checked (of_decl p) h = false_true h
checked (of_quote expressions) h = refl
checked (of_quote raw) h = false_true h
checked (of_code p) h = false_true h

-- ---- the tokens of a part

-- what closes these closes those, where the one list begins with the other
pub shut_closing : (n : ℕ) (b : Bracket) (f : List Bracket → Bool) (P : List Bracket → Type 0) (bs : List Bracket) → shut b f bs ≡ true → ((ds : List Bracket) → f ds ≡ true → P (b ∷ ds)) → P bs
shut_closing n b f P [] h g = false_true h
shut_closing n b f P (d ∷ bs) h g = subst (λ z. P (z ∷ bs)) (same_is b d (and_left (same_bracket b d) (f bs) h)) (g bs (and_right (same_bracket b d) (f bs) h))

turn_closing : (n : ℕ) (t : Lexeme) (ts : List Lexeme) (f : List Bracket → Bool) (r : Role) → Says r t.kind → ((bs : List Bracket) → f bs ≡ true → Closing n bs ts) → (bs : List Bracket) → turn r f bs ≡ true → Closing n bs (t ∷ ts)
turn_closing n t ts f (opens b) k g bs h = left_before n b bs t ts k (g (b ∷ bs) h)
turn_closing n t ts f (shuts b) k g bs h = shut_closing n b f (λ ds. Closing n ds (t ∷ ts)) bs h (λ ds e. right_before n b ds t ts k (g ds e))
turn_closing n t ts f nothing k g bs h = plain_before n bs t ts k (g bs h)
turn_closing n t ts f unknown k g bs h = false_true h

pass_closing : (n : ℕ) (b : Option Bracket) (a ts : List Lexeme) (f : List Bracket → Bool) → Closing n (listed b) a → ((bs : List Bracket) → f bs ≡ true → Closing n bs ts) → (bs : List Bracket) → pass b f bs ≡ true → Closing n bs (a ++ ts)
pass_closing n None a ts f d g bs h = behind n [] bs a ts d (g bs h)
pass_closing n (Some b) a ts f d g bs h = shut_closing n b f (λ ds. Closing n ds (a ++ ts)) bs h (λ ds e. behind n (b ∷ []) ds a ts d (g ds e))

module _ (n : ℕ) where
  abbrev pub ClosesBelow : ℕ → Type 0
  ClosesBelow k = (p : Part) → inside p ≡ true → (m : ℕ) (x : Tree p) (ts : List Lexeme) (d : Spells language m (part p x ∷ []) ts) → height language d < k → Closing n (listed (closer p)) ts

  slots_closing : (k : ℕ) → ClosesBelow k → (m : ℕ) (slots : List (Slot Part)) (v : Values Tree slots) (ts : List Lexeme) (d : Spells language m (filled Tree slots v) ts) → height language d < k →
      (bs : List Bracket) → walk slots bs ≡ true → Closing n bs ts
  slots_closing k ih m [] v ts d h [] w = let z = nothing-out language d in subst (Closing n []) (sym z) (no_pieces n)
  slots_closing k ih m [] v ts d h (b ∷ bs) w = false_true w
  slots_closing k ih m (mark kind ∷ slots) v ts d h bs w = let o = token-out language (no_plain language) d in let l = o.5 in
      subst (Closing n bs) (sym o.2) (turn_closing n o.0 o.1 (walk slots) (role kind) (subst (Says (role kind)) (sym o.3) (role_says kind)) (λ cs e. slots_closing k ih m slots v o.1 o.4 (omega (arith, h, l)) cs e) bs w)
  slots_closing k ih m (word kind u ∷ slots) v ts d h bs w = let o = token-out language (no_spelled language) d in let l = o.5 in
      subst (Closing n bs) (sym o.2) (turn_closing n o.0 o.1 (walk slots) (role kind) (subst (Says (role kind)) (sym o.3.0) (role_says kind)) (λ cs e. slots_closing k ih m slots v o.1 o.4 (omega (arith, h, l)) cs e) bs w)
  slots_closing k ih m (name kind ok ∷ slots) v ts d h bs w = let o = token-out language (no_named language) d in let l = o.5 in
      subst (Closing n bs) (sym o.2) (turn_closing n o.0 o.1 (walk slots) (role kind) (subst (Says (role kind)) (sym o.3.0) (role_says kind)) (λ cs e. slots_closing k ih m slots v.1 o.1 o.4 (omega (arith, h, l)) cs e) bs w)
  slots_closing k ih m (number ∷ slots) v ts d h bs w = let o = token-out language (no_counted language) d in let l = o.5 in
      subst (Closing n bs) (sym o.2) (plain_before n bs o.0 o.1 (subst (λ z. is_one plain_kinds z ≡ true) (sym o.3) refl) (slots_closing k ih m slots v.1 o.1 o.4 (omega (arith, h, l)) bs w))
  slots_closing k ih m (among ks ∷ slots) v ts d h bs w = false_true w
  slots_closing k ih m (one p ∷ slots) v ts d h bs w = let o = part-out language d in let l = o.4 in let l' = o.6 in
      subst (Closing n bs) (sym o.2) (pass_closing n (closer p) o.0 o.1 (walk slots) (ih p (and_left (inside p) _ w) m v.0 o.0 o.3 (omega (arith, h, l)))
      (λ cs e. slots_closing k ih m slots v.1 o.1 o.5 (omega (arith, h, l')) cs e) bs (and_right (inside p) _ w))

  rules_closing : (k : ℕ) → ClosesBelow k → (m : ℕ) (p : Part) (x : Tree p) (q : List (Sym Tree)) (ts : List Lexeme) (rs : List (Rule Tree (Tree p))) (bs : List Bracket) → walks rs bs ≡ true →
      AnyOf (Builds language p x q ts) rs → (d : Spells language m q ts) → height language d < k → Closing n bs ts
  rules_closing k ih m p x q ts [] bs w c d h = absurd c
  rules_closing k ih m p x q ts (r ∷ rs) bs w (inl (v, span, is, al, b, f)) d h = let s = height-subst language f d in
      slots_closing k ih m r.slots v ts (subst (λ z. Spells language m z ts) f d) (omega (arith, h, s)) bs (and_left (walk r.slots bs) _ w)
  rules_closing k ih m p x q ts (r ∷ rs) bs w (inr c) d h = rules_closing k ih m p x q ts rs bs (and_right (walk r.slots bs) _ w) c d h

  pub closes_below : (k : ℕ) → ClosesBelow k
  closes_below zero p i m x ts d h = absurd (omega (arith, h))
  closes_below (suc k) p i m x ts d h = let o = produced-out language d in let l = o.7 in
      subst (Closing n (listed (closer p))) (sym o.3) (rules_closing k (closes_below k) o.0 p x o.1 o.2 (rules p) (listed (closer p)) (checked p i) o.4 o.6 (omega (arith, h, l)))

-- the tokens of an expression have their brackets in pairs
paired : (n m : ℕ) (x : Code expressions) (ts : List Lexeme) → Spells language m (part (of_quote expressions) x ∷ []) ts → Pieces n ts
paired n m x ts d = closes_below n (height language d + 1) (of_quote expressions) refl m x ts d (omega arith)

-- ---- and begin with `[` only as `[]`

well : (a b : Bool) → (a && not b) ≡ false → (not a || b) ≡ true
well true true h = refl
well true false h = sym h
well false b h = refl

well_begun : (t : Lexeme) (us : List Lexeme) → hits bracket false a_bracket (t ∷ us) ≡ false → begins_well (t ∷ us) ≡ true
well_begun t us h = well (member (symbols (symbol.LBracket ∷ [])) t.kind t.content) (starts (member (symbols (symbol.RBracket ∷ []))) us) h

begins : (m : ℕ) (x : Code expressions) (ts : List Lexeme) (q : List (Sym Tree)) → AnyOf (Builds language (of_quote expressions) x q ts) (rules (of_quote expressions)) → Spells language m q ts →
    (t : Lexeme) × (us : List Lexeme) × (ts ≡ t ∷ us) × (begins_well ts ≡ true)
begins m x ts q (inl (v, span, is, al, b, f)) d =
    let o = part-out language (subst (λ z. Spells language m z ts) f d) in
    let s : ts ≡ o.0 = o.2 ∙ ap (λ y. o.0 ++ y) (nothing-out language o.5) ∙ append-nil o.0 in
    elim (part_begun language first empty fit (of_exp e.exp) m v.0 o.0 o.3) [
      | inl y ↦ false_true y.1
      | inr y ↦ (let z : ts ≡ y.0 ∷ y.1 = s ∙ y.2 in
          let g : hits bracket false a_bracket (y.0 ∷ y.1) ≡ false = subst (λ u. hits bracket false a_bracket u ≡ false) (append-nil o.0 ∙ y.2) (no_bracket m v.0 o.0 [] o.3) in
          (y.0, y.1, z, subst (λ u. begins_well u ≡ true) (sym z) (well_begun y.0 y.1 g)))
    ]
begins m x ts q (inr c) d = absurd c

-- ---- raw code

first_cases : (n m : ℕ) → m ≤ n → (x : List Lexeme) (t : Lexeme) (us ts : List Lexeme) → ts ≡ t ∷ us → (q : List (Sym Tree)) → AnyOf (Builds language (of_code pieces) x q ts) (rules (of_code pieces)) → Spells language m q ts →
    (a : List Lexeme) × (b : List Lexeme) × (ts ≡ a ++ b) × Spells language n (part (of_code piece) a ∷ []) a × Pieces n b
first_cases n m c x t us ts e q (inl (v, span, is, al, bx, f)) d = absurd (let z : ts ≡ [] = nothing-out language (subst (λ y. Spells language m y ts) f d) in cc)
first_cases n m c x t us ts e q (inr (inl (v, span, is, al, bx, f))) d =
    let o = part-out language (subst (λ y. Spells language m y ts) f d) in let r = part-out language o.5 in
    let tail : o.1 ≡ r.0 = r.2 ∙ ap (λ y. r.0 ++ y) (nothing-out language r.5) ∙ append-nil r.0 in
    let head_same : v.0 ≡ o.0 = code_same piece m v.0 o.0 o.3 in let tail_same : v.1.0 ≡ r.0 = code_same pieces m v.1.0 r.0 r.3 in (
      o.0,
      r.0,
      o.2 ∙ ap (λ y. o.0 ++ y) tail,
      wider language (subst (λ y. Spells language m (part (of_code piece) y ∷ []) o.0) head_same o.3) c,
      wider language (subst (λ y. Spells language m (part (of_code pieces) y ∷ []) r.0) tail_same r.3) c,
    )
first_cases n m c x t us ts e q (inr (inr z)) d = absurd z

-- an expression's tokens are raw code
pub is_raw : (n m : ℕ) (x : Code expressions) (ts : List Lexeme) → Spells language m (part (of_quote expressions) x ∷ []) ts → Spells language n (part (of_quote raw) (record { tokens = ts; nesting = 0 }) ∷ []) ts
is_raw n m x ts d =
    let o = produced-out language d in
    let g = begins o.0 x o.2 o.1 o.4 o.6 in
    let whole : ts ≡ g.0 ∷ g.1 = o.3 ∙ g.2 in
    let w : begins_well ts ≡ true = ap begins_well o.3 ∙ g.3 in
    let p = produced-out language (paired n m x ts d) in let l = p.5 in
    let f = first_cases n p.0 (omega (arith, l)) ts g.0 g.1 p.2 (sym p.3 ∙ whole) p.1 p.4 p.6 in
    let e : ts ≡ f.0 ++ f.1 = p.3 ∙ f.2 in
    by language {below = n} (inl ((f.0, (f.1, tt)), _, refl, subst (λ z. begins_well z ≡ true) e w, ap (λ z. record { tokens = z; nesting = 0 }) e, refl)) (omega arith)
    (subst (λ z. Spells language n (part (of_code piece) f.0 ∷ part (of_code pieces) f.1 ∷ []) z) (sym e) (append language f.3 f.4))
