-- Names applied to arguments, and the names of fields.
use Rattle.std.proofs.Common.{◌≡◌, refl, ap, ap₂, sym, ◌∙◌, subst, ℕ, ◌-◌, Bool, true, false, if◌then◌else◌, List, [], Option, Some, None, Result, IfOk, bytes_eq, codes, rules}
use Rattle.std.proofs.lemmas.Result.{IfOk-weaker}
use Rattle.ur_base.specs.declared.refusal.Memory.{Memory}
use Rattle.ur_syntax.specs.declared.con.ConName.{ConName}
use Rattle.ur_syntax.specs.declared.con.FieldName.{FieldName}
use Rattle.ur_syntax.specs.declared.con.FieldName.TheVariants as field_name
use Rattle.ur_syntax.specs.Names.{own, seen}
use Rattle.ur_rows.specs.declared.normal.Label.{Label}
use Rattle.ur_rows.specs.declared.normal.Label.TheVariants as label
use Rattle.ur_rows.specs.declared.normal.Normal.{Normal}
use Rattle.ur_rows.specs.IsNormal.{is_normal}
use Rattle.ur_rows.specs.Put.{as_label, raised, applied}
use Rattle.ur_rows.specs.Normal.{Known, or_raised, known_as, label_of, map_of, xml_of, word, word_with, name_with}
use Rattle.ur_rows_reduce.specs.declared.held.Held.{Held}
use Rattle.ur_rows_normal.specs.declared.names.Scope.{Scope}
use Rattle.ur_rows_reduce.specs.Held.{Holds}
use Rattle.ur_rows_reduce.specs.Arguments.{Given}
use Rattle.ur_rows_normal.specs.Walk.{AgreesOn, Tells, names_of}
use Rattle.ur_rows_normal.proofs.Agreeing.{seen-agrees}

-- ---- words

pub word-map : (x : List ℕ) (ns : List Normal) (b : Bool) → b ≡ bytes_eq x (codes "map") → b ≡ true → word_with x ns ≡ map_of ns
word-map x ns b e t = ap (λ z. if z then map_of ns else if bytes_eq x (codes "xml") then xml_of ns else applied (word x) ns) (sym e ∙ t)

pub word-xml : (x : List ℕ) (ns : List Normal) (b c : Bool) → b ≡ bytes_eq x (codes "map") → b ≡ false → c ≡ bytes_eq x (codes "xml") → c ≡ true → word_with x ns ≡ xml_of ns
word-xml x ns b c e f g t = ap (λ z. if z then map_of ns else if bytes_eq x (codes "xml") then xml_of ns else applied (word x) ns) (sym e ∙ f) ∙
    ap (λ z. if z then xml_of ns else applied (word x) ns) (sym g ∙ t)

pub word-other : (x : List ℕ) (ns : List Normal) (b c : Bool) → b ≡ bytes_eq x (codes "map") → b ≡ false → c ≡ bytes_eq x (codes "xml") → c ≡ false → word_with x ns ≡ applied (word x) ns
word-other x ns b c e f g t = ap (λ z. if z then map_of ns else if bytes_eq x (codes "xml") then xml_of ns else applied (word x) ns) (sym e ∙ f) ∙
    ap (λ z. if z then xml_of ns else applied (word x) ns) (sym g ∙ t)

pub word-walks : (r : Result Held Memory) (x : List ℕ) (hs : List Held) (f : List Normal → Normal) → ((ns : List Normal) → word_with x ns ≡ f ns) →
    IfOk r (λ h. (ns : List Normal) → Given hs ns → Holds h (f ns)) → IfOk r (λ h. (ns : List Normal) → Given hs ns → Holds h (word_with x ns))
word-walks r x hs f e k = IfOk-weaker r _ _ (λ h g ns q. subst (Holds h) (sym (e ns)) (g ns q)) k

pub word-applied : (r : Result Held Memory) (x : List ℕ) (hs : List Held) (h : Held) (n : Normal) → n ≡ word x → Holds h n → ((ns : List Normal) → word_with x ns ≡ applied (word x) ns) →
    IfOk r (λ g. (m : Normal) (ns : List Normal) → Holds h m → Given hs ns → Holds g (applied m ns)) → IfOk r (λ g. (ns : List Normal) → Given hs ns → Holds g (word_with x ns))
word-applied r x hs h n i p e k = IfOk-weaker r _ _ (λ g f ns q. subst (Holds g) (sym (e ns)) (f (word x) ns (subst (Holds h) i p) q)) k

-- ---- names

found-agrees : (s : Scope) (known : Known) (k : ConName) (o : Option (ℕ × Held)) → o ≡ seen s.home.now k (names_of s.names.now) → Tells s known → AgreesOn o (seen known.home k known.names)
found-agrees s known k o e t = subst (λ z. AgreesOn z (seen known.home k known.names)) (sym e)
    (subst (λ z. AgreesOn (seen s.home.now k (names_of s.names.now)) (seen z k known.names)) t.home (seen-agrees s.home.now k (names_of s.names.now) known.names t.names))

pub named-found : (r : Result Held Memory) (s : Scope) (k : ConName) (x : List ℕ) (hs : List Held) (d by : ℕ) (h form : Held) → Some (d, h) ≡ seen s.home.now k (names_of s.names.now) → by ≡ s.depth - d →
    ((n : Normal) → is_normal n ≡ true → Holds h n → Holds form (raised by n)) → IfOk r (λ g. (n : Normal) (ns : List Normal) → Holds form n → Given hs ns → Holds g (applied n ns)) →
    IfOk r (λ g. (known : Known) (ns : List Normal) → Tells s known → Given hs ns → Holds g (name_with (known_as k known) x ns))
named-found r s k x hs d by h form e f p w = IfOk-weaker r _ _ (λ g q known ns t u. go g q known ns t u (seen known.home k known.names) (found-agrees s known k (Some (d, h)) e t)) w where
  go : (g : Held) → ((n : Normal) (ns : List Normal) → Holds form n → Given hs ns → Holds g (applied n ns)) → (known : Known) (ns : List Normal) → Tells s known → Given hs ns → (v : Option (ℕ × Normal)) → AgreesOn (Some (d, h)) v →
      Holds g (name_with (or_raised known.depth v) x ns)
  go g q known ns t u None a = absurd a
  go g q known ns t u (Some m) a = subst (λ z. Holds g (applied (raised z m.1) ns)) (f ∙ ap₂ (λ y z. y - z) t.depth a.0) (q (raised by m.1) ns (p m.1 a.2 a.1) u)

pub named-none : (r : Result Held Memory) (s : Scope) (k : ConName) (x : List ℕ) (hs : List Held) → None ≡ seen s.home.now k (names_of s.names.now) →
    IfOk r (λ g. (ns : List Normal) → Given hs ns → Holds g (word_with x ns)) → IfOk r (λ g. (known : Known) (ns : List Normal) → Tells s known → Given hs ns → Holds g (name_with (known_as k known) x ns))
named-none r s k x hs e w = IfOk-weaker r _ _ (λ g q known ns t u. go g q known ns t u (seen known.home k known.names) (found-agrees s known k None e t)) w where
  go : (g : Held) → ((ns : List Normal) → Given hs ns → Holds g (word_with x ns)) → (known : Known) (ns : List Normal) → Tells s known → Given hs ns → (v : Option (ℕ × Normal)) → AgreesOn None v →
      Holds g (name_with (or_raised known.depth v) x ns)
  go g q known ns t u None a = q ns u
  go g q known ns t u (Some m) a = absurd a

-- ---- the names of fields

pub label-found : (r : Result Label Memory) (s : Scope) (name : FieldName) (x : List ℕ) (d by : ℕ) (h : Held) → name ≡ field_name.Variable x → Some (d, h) ≡ seen s.home.now (own x) (names_of s.names.now) → by ≡ s.depth - d →
    IfOk r (λ l. (n : Normal) → Holds h n → l ≡ as_label (raised by n)) → IfOk r (λ l. (known : Known) → Tells s known → l ≡ label_of known name)
label-found r s name x d by h i e f w = IfOk-weaker r _ _ (λ l q known t. go l q known t (seen known.home (own x) known.names) refl (found-agrees s known (own x) (Some (d, h)) e t)) w where
  go : (l : Label) → ((n : Normal) → Holds h n → l ≡ as_label (raised by n)) → (known : Known) → Tells s known → (v : Option (ℕ × Normal)) → seen known.home (own x) known.names ≡ v → AgreesOn (Some (d, h)) v → l ≡ label_of known name
  go l q known t None j a = absurd a
  go l q known t (Some m) j a = q m.1 a.1 ∙ ap (λ z. as_label (raised z m.1)) (f ∙ ap₂ (λ y z. y - z) t.depth a.0) ∙
      sym (ap (λ z. as_label (name_with (or_raised known.depth z) x [])) j) ∙ sym (ap (label_of known) i)

no-label : (x : List ℕ) → as_label (word_with x []) ≡ label.Literal []
no-label x = search rules

pub label-none : (s : Scope) (name : FieldName) (x : List ℕ) (l : Label) → name ≡ field_name.Variable x → None ≡ seen s.home.now (own x) (names_of s.names.now) → l ≡ label.Literal [] →
    (known : Known) → Tells s known → l ≡ label_of known name
label-none s name x l i e f known t = go (seen known.home (own x) known.names) refl (found-agrees s known (own x) None e t) where
  go : (v : Option (ℕ × Normal)) → seen known.home (own x) known.names ≡ v → AgreesOn None v → l ≡ label_of known name
  go None j a = f ∙ sym (no-label x) ∙ sym (ap (λ z. as_label (name_with (or_raised known.depth z) x [])) j) ∙ sym (ap (label_of known) i)
  go (Some m) j a = absurd a
