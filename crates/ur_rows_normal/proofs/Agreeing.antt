-- What is kept of names tells of what these stand for.
use Rattle.std.proofs.Common.{◌≡◌, refl, ap, sym, ◌∙◌, subst, ℕ, Bool, true, false, if◌then◌else◌, List, [], ◌∷◌, Option, Some, None, bytes_eq}
use Rattle.ur_syntax.specs.declared.con.Con.{Con}
use Rattle.ur_syntax.specs.declared.con.ConName.{ConName}
use Rattle.ur_syntax.specs.declared.con.ConMeaning.TheVariants as meaning
use Rattle.ur_syntax.specs.declared.con.ConEntry.{ConEntry}
use Rattle.ur_syntax.specs.Names.{looked_up, or_own, seen_by, seen, same_con, member}
use Rattle.ur_rows.specs.declared.normal.Normal.{Normal}
use Rattle.ur_rows.specs.Normal.{Known, at_home, entry_form, nf_with}
use Rattle.ur_rows_reduce.specs.declared.held.Held.{Held}
use Rattle.ur_rows_reduce.specs.Held.{Holds}
use Rattle.ur_rows_normal.specs.Walk.{AgreesOn, Agrees, known_so, home_in}

-- ---- looking up

agrees-if : (b c : Bool) (h i : Option (ℕ × Held)) (n m : Option (ℕ × Normal)) → b ≡ c → AgreesOn h n → AgreesOn i m → AgreesOn (if b then h else i) (if c then n else m)
agrees-if true true h i n m e p q = p
agrees-if true false h i n m e p q = absurd (cc)
agrees-if false true h i n m e p q = absurd (cc)
agrees-if false false h i n m e p q = q

pub looked-agrees : (k : ConName) (hs : List (ConName × (ℕ × Held))) (ns : List (ConName × (ℕ × Normal))) → Agrees hs ns → AgreesOn (looked_up k hs) (looked_up k ns)
looked-agrees k [] [] a = tt
looked-agrees k [] (n ∷ ns) a = absurd a
looked-agrees k (h ∷ hs) [] a = absurd a
looked-agrees k (h ∷ hs) (n ∷ ns) a = agrees-if (same_con k h.0) (same_con k n.0) (Some h.1) (looked_up k hs) (Some n.1) (looked_up k ns) (ap (same_con k) a.0) a.1 (looked-agrees k hs ns a.2)

or-agrees : (m : List ℕ) (k : ConName) (hs : List (ConName × (ℕ × Held))) (ns : List (ConName × (ℕ × Normal))) (h : Option (ℕ × Held)) (n : Option (ℕ × Normal)) → Agrees hs ns → AgreesOn h n →
    AgreesOn (or_own m k hs h) (or_own m k ns n)
or-agrees m k hs ns None None a e = looked-agrees (member m k.name) hs ns a
or-agrees m k hs ns None (Some n) a e = absurd e
or-agrees m k hs ns (Some h) None a e = absurd e
or-agrees m k hs ns (Some h) (Some n) a e = e

by-agrees : (o : Option (List ℕ)) (m : List ℕ) (k : ConName) (hs : List (ConName × (ℕ × Held))) (ns : List (ConName × (ℕ × Normal))) → Agrees hs ns → AgreesOn (seen_by o m k hs) (seen_by o m k ns)
by-agrees None m k hs ns a = or-agrees m k hs ns (looked_up k hs) (looked_up k ns) a (looked-agrees k hs ns a)
by-agrees (Some n) m k hs ns a = agrees-if (bytes_eq n m) (bytes_eq n m) None (looked_up k hs) None (looked_up k ns) refl tt (looked-agrees k hs ns a)

pub seen-agrees : (m : List ℕ) (k : ConName) (hs : List (ConName × (ℕ × Held))) (ns : List (ConName × (ℕ × Normal))) → Agrees hs ns → AgreesOn (seen m k hs) (seen m k ns)
seen-agrees m k hs ns a = by-agrees k.home m k hs ns a

-- ---- the names of an environment

at-home : (h : Option (List ℕ)) (home : List ℕ) (names : List (ConName × (ℕ × Normal))) → at_home h (known_so home names) ≡ known_so (home_in h home) names
at-home None home names = refl
at-home (Some m) home names = refl

pub form-defined : (h : Held) (home g : List ℕ) (names : List (ConName × (ℕ × Normal))) (n : ℕ) (e : ConEntry) (c : Con) → e.meaning ≡ meaning.Defined c → g ≡ home_in e.name.home home →
    Holds h (nf_with (known_so g names) c.form []) → Holds h (entry_form (known_so home names) n e.name.home e.kind e.meaning)
form-defined h home g names n e c i j w = subst (λ z. Holds h (entry_form (known_so home names) n e.name.home e.kind z)) (sym i)
    (subst (λ (z : Known). Holds h (nf_with z c.form [])) (ap (λ z. known_so z names) j ∙ sym (at-home e.name.home home names)) w)
