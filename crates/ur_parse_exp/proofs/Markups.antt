-- A literal of XML is its skeleton with expressions for the code.
use Rattle.std.specs.Prelude.{◌≡◌, ◌⊎◌, ◌||◌, ◌+◌, ◌≤◌, ◌-◌, ℕ, Bool, true, false, List, [], ◌∷◌, ◌++◌, drop, codes, refl}
use Rattle.std.specs.List.{AllByRecursion}
use Rattle.std.proofs.Common.{◌∙◌, ap, inl, inr, arith, append_assoc}
use Rattle.ur_base.specs.declared.refusal.Refusal.{Refusal}
use Rattle.ur_base.specs.declared.refusal.Stop.{Stop}
use Rattle.ur_base.specs.Stopping.{Says}
use Rattle.ur_lex.specs.declared.token.Symbol.TheVariants as symbol
use Rattle.ur_lex.specs.declared.token.TokenKind.TheVariants as token
use Rattle.ur_lex.specs.declared.token.Lexeme.{Lexeme}
use Rattle.ur_syntax.specs.declared.exp.Exp.{Exp}
use Rattle.ur_syntax.specs.declared.exp.ExpForm.TheVariants as form
use Rattle.ur_syntax.specs.declared.xml.Xml.{Xml}
use Rattle.ur_parse_rules.specs.Rules.{AnyOf, Read, Refused, NoneReads, one}
use Rattle.ur_parse_rules.specs.Places.{Moves, IsAt, OfKind, OfRefusal, span_of}
use Rattle.ur_parse_rules.proofs.Once.{read_once}
use Rattle.ur_parse_rules.proofs.Tokens.{covers}
use Rattle.ur_parse_rules.proofs.Steps.{nothing, an_one, one_refused, reads_by, refused_by}
use Rattle.ur_parse_rules.proofs.Choices.{chosen_mark_at}
use Rattle.ur_parse_rules.specs.Quoted.{expressions, raw, Raw, Quoted}
use Rattle.ur_parse_rules.specs.Expressions.{at}
use Rattle.ur_parse_rules.specs.ExpParts.{base}
use Rattle.ur_parse_rules.specs.XmlParts as x
use Rattle.ur_parse_rules.specs.Parts.{of_exp, of_xml}
use Rattle.ur_parse_rules.specs.Language.{language}
use Rattle.ur_parse_rules.proofs.Choice.{choice}
use Rattle.ur_parse_rules.proofs.AllDecided.{decided}
use Rattle.ur_parse_rules.proofs.Places.{ends_empty}
use Rattle.ur_parse_embed_code.specs.declared.quotes.Quotes.{Quotes}
use Rattle.ur_parse_embed_code.specs.Quotes.{Numbered}
use Rattle.ur_parse_embed_code.specs.Filled.{Fills, AllKnown, OpensBehind}
use Rattle.ur_parse_embed_code.specs.Laws.{literal}
use Rattle.ur_parse_embed_code.proofs.Laws.{is_filled, is_filled_or_open, literal_read, literal_complete}
use Rattle.ur_parse_embed_code.proofs.Trimmed.{one_beyond}
use Rattle.ur_parse_exp.specs.declared.code.Codes.{Codes}
use Rattle.ur_parse_exp.specs.Codes.{IsNone, IsKnown, CodesRead, Told}
use Rattle.ur_parse_exp.specs.Markups.{IsMarkup}
use Rattle.ur_parse_exp.proofs.Skeletons.{Reading, Stripped, Skeleton}
use Rattle.ur_parse_exp.proofs.Skeletons as skeletons

-- ---- literals

abbrev pub LiteralRaws : Reading (Quoted Raw Xml)
LiteralRaws n ts rest a = Read language n (of_xml raw x.literal) ts rest a

abbrev pub LiteralExps : Reading (Quoted Exp Xml)
LiteralExps n ts rest b = Read language n (of_xml expressions x.literal) ts rest b

literal_skeleton : (n : ℕ) (ts rest : List Lexeme) (b : Quoted Exp Xml) → LiteralExps n ts rest b → (a : Quoted Raw Xml) × LiteralRaws n ts rest a × Fills n a b
literal_skeleton n ts rest b g = let o = literal_read n b g.taken g.spells in (o.0, record { taken = g.taken; split = g.split; spells = o.1; stops = g.stops }, o.2)

literal_once : (m n : ℕ) (ts end rest : List Lexeme) (a c : Quoted Raw Xml) → LiteralRaws m ts end a → LiteralRaws n ts rest c → a ≡ c
literal_once m n ts end rest a c h k = (read_once language choice decided h k).0

literal_filled : (n : ℕ) (ts rest : List Lexeme) (a : Quoted Raw Xml) (b : Quoted Exp Xml) → LiteralRaws n ts rest a → Fills n a b → LiteralExps n ts rest b
literal_filled n ts rest a b h f = record {
  taken = h.taken;
  split = h.split;
  spells = is_filled (of_xml expressions x.literal) (literal raw) (literal expressions) literal_complete n n a b h.taken h.spells (omega arith) f;
  stops = h.stops;
}

literal_known : (m n : ℕ) (ts rest : List Lexeme) (a : Quoted Raw Xml) → LiteralRaws m ts rest a → AllKnown true n a → ((b : Quoted Exp Xml) × LiteralExps n ts rest b) ⊎ OpensBehind (n + 1) (one (of_xml expressions x.literal) ∷ []) ts
literal_known m n ts rest a h k = elim (is_filled_or_open (of_xml expressions x.literal) (literal raw) (literal expressions) literal_complete m n a h.taken h.spells k) [
  | inl y ↦ inl (y.0, record { taken = h.taken; split = h.split; spells = y.2; stops = h.stops })
  | inr y ↦ inr (let t = one_beyond n (one (of_xml expressions x.literal) ∷ []) h.taken y in (t.0, t.1 ++ rest, h.split ∙ ap (λ z. z ++ rest) t.2 ∙ append_assoc t.0 t.1 rest, t.3))
]

literals : Stripped (of_xml expressions x.literal) (of_xml raw x.literal) LiteralRaws LiteralExps
literals = record { tree = λ n ts rest x h. (x, h); bare = λ n ts rest a h. (a, h); skeleton = literal_skeleton; once = literal_once; filled = literal_filled; known = literal_known }

-- ---- what is read of one

module _ (n : ℕ) (ts : List Lexeme) where
  pub first_none : (m : ℕ) (e : Stop) {q : Refusal} → OfRefusal e (λ y. Refused language m (of_xml raw x.literal) ts y) → Told e (λ y. (q ≡ y) × (y.code ≡ 5)) → Refused language n (of_xml expressions x.literal) ts q
  first_none m e {q = q} h f = skeletons.first_none literals m n ts e q h f

  pub first_deep : (e : Stop) → OfRefusal e (λ y. Refused language n (of_xml raw x.literal) ts y) → Told e (λ y. y.code ≡ 5 → ⊥) → NoneReads language n (of_xml expressions x.literal) ts
  first_deep e h f = skeletons.first_deep literals n ts e h f

-- a skeleton, and the code of its ranges
abbrev pub Literal : List Lexeme → ℕ → ℕ → ℕ → Quotes → Xml → Type 0
Literal tokens bound i j q xml = Skeleton LiteralRaws tokens bound i j q xml

pub literal_of : {tokens : List Lexeme} {bound i j : ℕ} {old new : Quotes} {xml : Xml} {a : Quoted Raw Xml} → old.exps ≡ [] → old.attributes ≡ [] → Read language bound (of_xml raw x.literal) (drop i tokens) (drop j tokens) a → Numbered tokens bound old new a xml → Literal tokens bound i j new xml
literal_of {tokens = tokens} {bound = bound} {i = i} {j = j} e f h m = skeletons.skeleton_of literals tokens bound i j e f h m

module _ {tokens : List Lexeme} {bound i j : ℕ} {q : Quotes} {xml : Xml} (h : Literal tokens bound i j q xml) where
  -- E05 of code is that of the literal
  pub exps_none : {n : ℕ} {r : Refusal} → Says r 5 [] [] × AnyOf (IsNone tokens) q.exps → Refused language n (of_xml expressions x.literal) (drop i tokens) r
  exps_none s = skeletons.none_refused literals h (skeletons.none_of_exps q s)

  pub attributes_none : {n : ℕ} {r : Refusal} → Says r 5 [] [] × AnyOf (IsNone tokens) q.attributes → Refused language n (of_xml expressions x.literal) (drop i tokens) r
  attributes_none s = skeletons.none_refused literals h (skeletons.none_of_attributes q s)

  -- where all code is known and no literal is read within n, more are open
  pub open_beyond : (less : ℕ) {n : ℕ} {r : Refusal} → less ≤ bound → n ≡ bound - less → Says r 6 (codes "257") (codes "256") → AllByRecursion (IsKnown tokens less) q.exps → AllByRecursion (IsKnown tokens less) q.attributes →
      NoneReads language n (of_xml expressions x.literal) (drop i tokens) → Refused language n (of_xml expressions x.literal) (drop i tokens) r
  open_beyond less {n = n} l k says es as_ none = skeletons.open_beyond literals h less n l k says es as_ none

module _ {tokens : List Lexeme} {n i j : ℕ} {q : Quotes} {xml : Xml} (h : Literal tokens n i j q xml) (a b : Codes) (c : CodesRead tokens 0 q.exps a) (d : CodesRead tokens 0 q.attributes b) where
  pub deep_refused : {r : Refusal} → Says r 6 (codes "257") (codes "256") → (a.deep || b.deep) ≡ true → Refused language n (of_xml expressions x.literal) (drop i tokens) r
  deep_refused s e = skeletons.deep_refused literals h (record { exps_read = c; attributes_read = d }) s e

  pub markup_made : (e : Exp) → (a.deep || b.deep) ≡ false → e ≡ at (span_of tokens i j) (form.Xml xml a.exps.tree b.exps.tree) → IsMarkup n tokens i j e
  markup_made e f is = record {
    of = record { exps = a.exps.tree; attributes = b.exps.tree; at = h.of.at };
    read = skeletons.all_filled literals h (record { exps_read = c; attributes_read = d }) f;
    is = is ∙ ap (λ z. at (span_of tokens i j) (form.Xml z a.exps.tree b.exps.tree)) h.value;
  }

-- ---- as an atom

module _ (n : ℕ) (front : Bool) {tokens : List Lexeme} {here : ℕ} where
  pub markup_read : {end : ℕ} {e : Exp} → Moves tokens here end → IsMarkup n tokens here end e → Read language n (of_exp (base front)) (drop here tokens) (drop end tokens) e
  markup_read {end = end} m h = let f = an_one {n = n} h.read nothing in
      reads_by 5 n (omega arith) (record { v = (h.of, tt); span = span_of tokens here end; fills = f; is_span = covers tokens here end m f.taken f.split; allowed = refl; builds = h.is }) (ends_empty _)

  pub open_refused : {next : ℕ} {r : Refusal} → IsAt tokens here next (OfKind (token.Symbol symbol.XmlOpen)) → Refused language n (of_xml expressions x.literal) (drop here tokens) r → Refused language n (of_exp (base front)) (drop here tokens) r
  open_refused a h = refused_by decided 5 n (omega arith) (chosen_mark_at (choice (of_exp (base front))) a (λ w s us. refl)) (one_refused h)

  pub empty_refused : {next : ℕ} {r : Refusal} → IsAt tokens here next (OfKind (token.Symbol symbol.XmlEmpty)) → Refused language n (of_xml expressions x.literal) (drop here tokens) r → Refused language n (of_exp (base front)) (drop here tokens) r
  empty_refused a h = refused_by decided 5 n (omega arith) (chosen_mark_at (choice (of_exp (base front))) a (λ w s us. refl)) (one_refused h)
