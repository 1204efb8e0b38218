-- The names of functions in a module that tokens spell are spelled as names in small letters.
use Rattle.std.proofs.Common.{inl, inr, ◌≡◌, sym, subst, Bool, true, List, [], ◌∷◌, ◌++◌, ℕ}
use Rattle.std.specs.Prelude.{take}
use Rattle.ur_disjoint.proofs.Members.{In}
use Rattle.ur_lex.specs.declared.mode.Mode.{Mode}
use Rattle.ur_lex.specs.declared.mode.Mode.TheVariants as place
use Rattle.ur_lex.specs.declared.token.Lexeme.{Lexeme}
use Rattle.ur_lex.specs.declared.token.TokenKind.{TokenKind}
use Rattle.ur_lex.specs.declared.token.TokenKind.TheVariants as kind
use Rattle.ur_lex.specs.Spelling.{Text, is_lower, IsSpelled}
use Rattle.ur_lex.specs.Lexing.{Lexes, finished, separator, token}
use Rattle.ur_syntax.specs.declared.decl.FunDef.{FunDef}
use Rattle.ur_syntax.specs.declared.decl.Decl.{Decl}
use Rattle.ur_syntax.specs.declared.decl.DeclForm.{DeclForm}
use Rattle.ur_syntax.specs.declared.decl.DeclForm.TheVariants as decl
use Rattle.ur_syntax.specs.declared.decl.Module.{Module}
use Rattle.ur_parse_rules.specs.Rules.{Sym, plain, spelled, named, counted, token_of, part, IsToken, AnyOf, Builds, Spells, end, token as first_token, produced}
use Rattle.ur_parse_rules.specs.DeclParts.{DeclPart}
use Rattle.ur_parse_rules.specs.DeclParts as d
use Rattle.ur_parse_rules.specs.Parts.{Part, Tree, DeclTree, of_con, of_exp, of_sql, of_xml, of_decl, of_quote, of_code}
use Rattle.ur_parse_rules.specs.Language.{language, rules, IsModule}

-- ---- what is said

abbrev pub IsLower : Text → Type 0
IsLower w = is_lower w ≡ true

abbrev pub AreLower : List FunDef → Type 0
AreLower [] = Unit {0}
AreLower (f ∷ fs) = IsLower f.name × AreLower fs

-- the functions that a declaration defines
abbrev pub functions_of : DeclForm → List FunDef
functions_of (decl.Fun fs) = fs
functions_of _ = []

abbrev pub functions_in : List Decl → List FunDef
functions_in [] = []
functions_in (x ∷ xs) = functions_of x.form ++ functions_in xs

-- ---- tokens

abbrev LowersAreLower : List Lexeme → Type 0
LowersAreLower [] = Unit {0}
LowersAreLower (t ∷ ts) = (t.kind ≡ kind.Lower → IsLower t.content) × LowersAreLower ts

lower_spelled : (mode : Mode) (content bytes : Text) → IsSpelled mode kind.Lower content bytes → IsLower content
lower_spelled place.Code content bytes h = subst IsLower h.0 h.1
lower_spelled place.Markup content bytes h = absurd h
lower_spelled place.Tag content bytes h = absurd h

lexed : {file at : ℕ} {modes : List Mode} {bytes : Text} {tokens : List Lexeme} → Lexes file modes at bytes tokens → LowersAreLower tokens
lexed (finished h) = tt
lexed (separator len h l) = lexed l
lexed (token {mode = mode} {bytes = bytes} what content len front l) =
    (λ e. lower_spelled mode content (take len bytes) (subst (λ k. IsSpelled mode k content (take len bytes)) e front.spelled), lexed l)

lowers_first : (a b : List Lexeme) → LowersAreLower (a ++ b) → LowersAreLower a
lowers_first [] b h = tt
lowers_first (t ∷ a) b h = (h.0, lowers_first a b h.1)

lowers_second : (a b : List Lexeme) → LowersAreLower (a ++ b) → LowersAreLower b
lowers_second [] b h = h
lowers_second (t ∷ a) b h = lowers_second a b h.1

-- ---- trees

abbrev DeclIsLower : (p : DeclPart) → DeclTree p → Type 0
DeclIsLower d.whole m = AreLower (functions_in m.decls)
DeclIsLower d.decls ds = AreLower (functions_in ds)
DeclIsLower d.decl x = AreLower (functions_of x.form)
DeclIsLower d.definition f = IsLower f.name
DeclIsLower d.more_definitions fs = AreLower fs
DeclIsLower _ x = Unit {0}

abbrev TreeIsLower : (p : Part) → Tree p → Type 0
TreeIsLower (of_decl p) x = DeclIsLower p x
TreeIsLower _ x = Unit {0}

abbrev SymIsLower : Sym Tree → Type 0
SymIsLower (named kind.Lower ok w) = IsLower w
SymIsLower (part p x) = TreeIsLower p x
SymIsLower _ = Unit {0}

abbrev SymsAreLower : List (Sym Tree) → Type 0
SymsAreLower [] = Unit {0}
SymsAreLower (s ∷ ss) = SymIsLower s × SymsAreLower ss

both_lower : (fs gs : List FunDef) → AreLower fs → AreLower gs → AreLower (fs ++ gs)
both_lower [] gs h g = g
both_lower (f ∷ fs) gs h g = (h.0, both_lower fs gs h.1 g)

whole_lower : (x : Module) (q : List (Sym Tree)) (i : List Lexeme) → AnyOf (Builds language (of_decl d.whole) x q i) (rules (of_decl d.whole)) → SymsAreLower q → AreLower (functions_in x.decls)
whole_lower x q i (inl b) g = subst (λ z. AreLower (functions_in z.decls)) (sym b.4) (subst SymsAreLower b.5 g).0
whole_lower x q i (inr b) g = absurd b

decls_lower : (x : List Decl) (q : List (Sym Tree)) (i : List Lexeme) → AnyOf (Builds language (of_decl d.decls) x q i) (rules (of_decl d.decls)) → SymsAreLower q → AreLower (functions_in x)
decls_lower x q i (inl b) g = subst (λ z. AreLower (functions_in z)) (sym b.4) tt
decls_lower x q i (inr (inl b)) g =
    let h = subst SymsAreLower b.5 g in subst (λ z. AreLower (functions_in z)) (sym b.4) (both_lower (functions_of b.0.0.form) (functions_in b.0.1.0) h.0 h.1.0)
decls_lower x q i (inr (inr b)) g = absurd b

decl_lower : (x : Decl) (q : List (Sym Tree)) (i : List Lexeme) → AnyOf (Builds language (of_decl d.decl) x q i) (rules (of_decl d.decl)) → SymsAreLower q → AreLower (functions_of x.form)
decl_lower x q i (inl b) g = subst (λ z. AreLower (functions_of z.form)) (sym b.4) tt
decl_lower x q i (inr (inl b)) g = subst (λ z. AreLower (functions_of z.form)) (sym b.4) tt
decl_lower x q i (inr (inr (inl b))) g = subst (λ z. AreLower (functions_of z.form)) (sym b.4) tt
decl_lower x q i (inr (inr (inr (inl b)))) g = subst (λ z. AreLower (functions_of z.form)) (sym b.4) tt
decl_lower x q i (inr (inr (inr (inr (inl b))))) g = subst (λ z. AreLower (functions_of z.form)) (sym b.4) tt
decl_lower x q i (inr (inr (inr (inr (inr (inl b)))))) g = subst (λ z. AreLower (functions_of z.form)) (sym b.4) tt
decl_lower x q i (inr (inr (inr (inr (inr (inr (inl b))))))) g = subst (λ z. AreLower (functions_of z.form)) (sym b.4) tt
decl_lower x q i (inr (inr (inr (inr (inr (inr (inr (inl b)))))))) g =
    let h = subst SymsAreLower b.5 g in subst (λ z. AreLower (functions_of z.form)) (sym b.4) (h.1.0, h.1.1.0)
decl_lower x q i (inr (inr (inr (inr (inr (inr (inr (inr b)))))))) g = absurd b

definition_lower : (x : FunDef) (q : List (Sym Tree)) (i : List Lexeme) → AnyOf (Builds language (of_decl d.definition) x q i) (rules (of_decl d.definition)) → SymsAreLower q → IsLower x.name
definition_lower x q i (inl b) g = subst (λ z. IsLower z.name) (sym b.4) (subst SymsAreLower b.5 g).0
definition_lower x q i (inr b) g = absurd b

definitions_lower : (x : List FunDef) (q : List (Sym Tree)) (i : List Lexeme) → AnyOf (Builds language (of_decl d.more_definitions) x q i) (rules (of_decl d.more_definitions)) → SymsAreLower q → AreLower x
definitions_lower x q i (inl b) g = subst AreLower (sym b.4) tt
definitions_lower x q i (inr (inl b)) g = let h = subst SymsAreLower b.5 g in subst AreLower (sym b.4) (h.1.0, h.1.1.0)
definitions_lower x q i (inr (inr b)) g = absurd b

declared_lower : (p : DeclPart) (x : DeclTree p) (q : List (Sym Tree)) (i : List Lexeme) → AnyOf (Builds language (of_decl p) x q i) (rules (of_decl p)) → SymsAreLower q → DeclIsLower p x
declared_lower d.whole x q i b g = whole_lower x q i b g
declared_lower d.decls x q i b g = decls_lower x q i b g
declared_lower d.decl x q i b g = decl_lower x q i b g
declared_lower d.definition x q i b g = definition_lower x q i b g
declared_lower d.more_definitions x q i b g = definitions_lower x q i b g
declared_lower d.variant x q i b g = tt
declared_lower d.variant_con x q i b g = tt
declared_lower d.more_variants x q i b g = tt
declared_lower d.keys x q i b g = tt
declared_lower d.key_column x q i b g = tt
declared_lower d.key_columns x q i b g = tt
declared_lower d.more_columns x q i b g = tt
declared_lower d.after_comma x q i b g = tt
declared_lower d.columns_end x q i b g = tt
declared_lower d.more_constraints x q i b g = tt
declared_lower d.constraint_head x q i b g = tt
declared_lower d.constraint_name x q i b g = tt
declared_lower d.con_params x q i b g = tt
declared_lower d.params x q i b g = tt
declared_lower d.signature x q i b g = tt
declared_lower d.val_decls x q i b g = tt
declared_lower d.val_decl x q i b g = tt

tree_lower : (p : Part) (x : Tree p) (q : List (Sym Tree)) (i : List Lexeme) → AnyOf (Builds language p x q i) (rules p) → SymsAreLower q → TreeIsLower p x
tree_lower (of_con p) x q i b g = tt
tree_lower (of_exp p) x q i b g = tt
tree_lower (of_sql r p) x q i b g = tt
tree_lower (of_xml r p) x q i b g = tt
tree_lower (of_decl p) x q i b g = declared_lower p x q i b g
tree_lower (of_quote r) x q i b g = tt
tree_lower (of_code p) x q i b g = tt

-- the symbol of a token
named_lower : (k : TokenKind) (ok : Text → Bool) (w : Text) (t : Lexeme) → IsToken {Tree = Tree} (named k ok w) t → (t.kind ≡ kind.Lower → IsLower t.content) → SymIsLower (named k ok w)
named_lower kind.Lower ok w t h g = subst IsLower h.1 (g h.0)
named_lower _ ok w t h g = tt

token_lower : (s : Sym Tree) (t : Lexeme) → IsToken s t → (t.kind ≡ kind.Lower → IsLower t.content) → SymIsLower s
token_lower (plain k) t h g = tt
token_lower (spelled k w) t h g = tt
token_lower (named k ok w) t h g = named_lower k ok w t h g
token_lower (counted n) t h g = tt
token_lower (token_of ks u) t h g = tt
token_lower (part p x) t h g = absurd h

symbols_lower : {n : ℕ} {symbols : List (Sym Tree)} {tokens : List Lexeme} → Spells language n symbols tokens → LowersAreLower tokens → SymsAreLower symbols
symbols_lower end h = tt
symbols_lower (first_token {s = s} {t = t} is l) h = (token_lower s t is h.0, symbols_lower l h.1)
symbols_lower (produced {p = p} {x = x} {production = q} {inner = i} {tokens = r} b c l k) h =
    (tree_lower p x q i b (symbols_lower l (lowers_first i r h)), symbols_lower k (lowers_second i r h))

-- ---- modules

pub module_lower : {file n : ℕ} {bytes : Text} {tokens : List Lexeme} {m : Module} → Lexes file (place.Code ∷ []) 0 bytes tokens → IsModule n tokens m → AreLower (functions_in m.decls)
module_lower l s = (symbols_lower s (lexed l)).0

pub function_lower : (fs : List FunDef) (f : FunDef) → AreLower fs → In f fs → IsLower f.name
function_lower [] f h i = absurd i
function_lower (g ∷ fs) f h (inl e) = subst (λ z. IsLower z.name) e h.0
function_lower (g ∷ fs) f h (inr i) = function_lower fs f h.1 i
