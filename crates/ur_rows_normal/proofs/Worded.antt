-- The words map and xml applied to arguments.
use Rattle.std.proofs.Common.{◌≡◌, ap, subst, arith, true, List, [], ◌∷◌, Bor}
use Rattle.ur_rows.specs.declared.normal.NormalType.{NormalType}
use Rattle.ur_rows.specs.declared.normal.Part.{Part}
use Rattle.ur_rows.specs.declared.normal.Normal.{Normal}
use Rattle.ur_rows.specs.declared.normal.Normal.TheVariants as normal
use Rattle.ur_rows.specs.Made.{form_of, unit}
use Rattle.ur_rows.specs.IsNormal.{is_normal}
use Rattle.ur_rows.specs.Put.{as_row, mapped_row}
use Rattle.ur_rows.specs.Normal.{as_function, map_of, xml_of}
use Rattle.ur_rows_reduce.specs.declared.held.Held.{Held}
use Rattle.ur_rows_reduce.specs.declared.held.Held.TheVariants as held
use Rattle.ur_rows_reduce.specs.declared.held.Fields.{Fields}
use Rattle.ur_rows_reduce.specs.declared.given.Args.{Args}
use Rattle.ur_rows_reduce.specs.declared.given.Args.TheVariants as args
use Rattle.ur_rows_reduce.specs.Held.{Holds, RowIs}
use Rattle.ur_rows_reduce.specs.Arguments.{Given, args_of}

no-row-of-nodes : (r : List Part) → r ≡ [] → Holds (held.Form (normal.Row r)) (normal.Row [])
no-row-of-nodes r e = (ap (λ z. normal.Row z) e, omega arith, omega arith)

pub map-none : (given : Args) (r : List Part) → given ≡ args.Empty → r ≡ [] → (ns : List Normal) → Given (args_of given) ns → Holds (held.Form (normal.Row r)) (map_of ns)
map-none given r i e ns g = go ns (subst (λ z. Given (args_of z) ns) i g) where
  go : (ns : List Normal) → Given [] ns → Holds (held.Form (normal.Row r)) (map_of ns)
  go [] g = no-row-of-nodes r e
  go (m ∷ ms) g = absurd g

pub map-one : (given : Args) (f : Bor Held) (rest : Bor Args) (r : List Part) → given ≡ args.More f rest → rest.now ≡ args.Empty → r ≡ [] → (ns : List Normal) → Given (args_of given) ns → Holds (held.Form (normal.Row r)) (map_of ns)
map-one given f rest r i j e ns g = go ns (subst (λ z. Given (f.now ∷ args_of z) ns) j (subst (λ z. Given (args_of z) ns) i g)) where
  go : (ns : List Normal) → Given (f.now ∷ []) ns → Holds (held.Form (normal.Row r)) (map_of ns)
  go [] g = absurd g
  go (m ∷ []) g = no-row-of-nodes r e
  go (m ∷ n ∷ ms) g = absurd (g.2)

pub map-two : (given : Args) (f r : Bor Held) (rest last : Bor Args) (h : Held) (w : Fields) → given ≡ args.More f rest → rest.now ≡ args.More r last → last.now ≡ args.Empty →
    ((m n : Normal) → is_normal m ≡ true → is_normal n ≡ true → Holds f.now m → Holds r.now n → RowIs w (mapped_row (as_function m) (as_row n))) →
    ((p : List Part) → RowIs w p → Holds h (normal.Row p)) → (ns : List Normal) → Given (args_of given) ns → Holds h (map_of ns)
map-two given f r rest last h w i j k u v ns g =
    go ns (subst (λ z. Given (f.now ∷ r.now ∷ args_of z) ns) k (subst (λ z. Given (f.now ∷ args_of z) ns) j (subst (λ z. Given (args_of z) ns) i g))) where
      go : (ns : List Normal) → Given (f.now ∷ r.now ∷ []) ns → Holds h (map_of ns)
      go [] g = absurd g
      go (m ∷ []) g = absurd (g.2)
      go (m ∷ n ∷ []) g = v _ (u m n g.1 g.2.1 g.0 g.2.0)
      go (m ∷ n ∷ o ∷ ms) g = absurd (g.2.2)

pub map-more : (given : Args) (f r x : Bor Held) (rest last end : Bor Args) (s : List Part) → given ≡ args.More f rest → rest.now ≡ args.More r last → last.now ≡ args.More x end → s ≡ [] →
    (ns : List Normal) → Given (args_of given) ns → Holds (held.Form (normal.Row s)) (map_of ns)
map-more given f r x rest last end s i j k e ns g =
    go ns (subst (λ z. Given (f.now ∷ r.now ∷ args_of z) ns) k (subst (λ z. Given (f.now ∷ args_of z) ns) j (subst (λ z. Given (args_of z) ns) i g))) where
      go : (ns : List Normal) → Given (f.now ∷ r.now ∷ x.now ∷ args_of end.now) ns → Holds (held.Form (normal.Row s)) (map_of ns)
      go [] g = absurd g
      go (m ∷ []) g = absurd (g.2)
      go (m ∷ n ∷ []) g = absurd (g.2.2)
      go (m ∷ n ∷ o ∷ ms) g = no-row-of-nodes s e

unit-holds : (t : NormalType) → t ≡ unit → Holds (held.Form (normal.Type t)) (normal.Type unit)
unit-holds t e = (ap (λ z. normal.Type z) e, omega arith, omega arith)

pub xml-none : (given : Args) (t : NormalType) → given ≡ args.Empty → t ≡ unit → (ns : List Normal) → Given (args_of given) ns → Holds (held.Form (normal.Type t)) (xml_of ns)
xml-none given t i e ns g = go ns (subst (λ z. Given (args_of z) ns) i g) where
  go : (ns : List Normal) → Given [] ns → Holds (held.Form (normal.Type t)) (xml_of ns)
  go [] g = unit-holds t e
  go (m ∷ ms) g = absurd g

pub xml-one : (given : Args) (f : Bor Held) (rest : Bor Args) (t : NormalType) → given ≡ args.More f rest → rest.now ≡ args.Empty → t ≡ unit → (ns : List Normal) → Given (args_of given) ns → Holds (held.Form (normal.Type t)) (xml_of ns)
xml-one given f rest t i j e ns g = go ns (subst (λ z. Given (f.now ∷ args_of z) ns) j (subst (λ z. Given (args_of z) ns) i g)) where
  go : (ns : List Normal) → Given (f.now ∷ []) ns → Holds (held.Form (normal.Type t)) (xml_of ns)
  go [] g = absurd g
  go (m ∷ []) g = unit-holds t e
  go (m ∷ n ∷ ms) g = absurd (g.2)

pub xml-two : (given : Args) (f r : Bor Held) (rest last : Bor Args) (t : NormalType) → given ≡ args.More f rest → rest.now ≡ args.More r last → last.now ≡ args.Empty → t ≡ unit →
    (ns : List Normal) → Given (args_of given) ns → Holds (held.Form (normal.Type t)) (xml_of ns)
xml-two given f r rest last t i j k e ns g =
    go ns (subst (λ z. Given (f.now ∷ r.now ∷ args_of z) ns) k (subst (λ z. Given (f.now ∷ args_of z) ns) j (subst (λ z. Given (args_of z) ns) i g))) where
      go : (ns : List Normal) → Given (f.now ∷ r.now ∷ []) ns → Holds (held.Form (normal.Type t)) (xml_of ns)
      go [] g = absurd g
      go (m ∷ []) g = absurd (g.2)
      go (m ∷ n ∷ []) g = unit-holds t e
      go (m ∷ n ∷ o ∷ ms) g = absurd (g.2.2)

pub xml-three : (given : Args) (f x r : Bor Held) (rest more last : Bor Args) (h : Held) (w : Fields) → given ≡ args.More f rest → rest.now ≡ args.More x more → more.now ≡ args.More r last → last.now ≡ args.Empty →
    ((n : Normal) → Holds r.now n → RowIs w (as_row n)) → ((p : List Part) → RowIs w p → Holds h (normal.Type (form_of p))) → (ns : List Normal) → Given (args_of given) ns → Holds h (xml_of ns)
xml-three given f x r rest more last h w i j k l u v ns g = go ns (subst (λ z. Given (f.now ∷ x.now ∷ r.now ∷ args_of z) ns) l (subst (λ z. Given (f.now ∷ x.now ∷ args_of z) ns) k
    (subst (λ z. Given (f.now ∷ args_of z) ns) j (subst (λ z. Given (args_of z) ns) i g)))) where
      go : (ns : List Normal) → Given (f.now ∷ x.now ∷ r.now ∷ []) ns → Holds h (xml_of ns)
      go [] g = absurd g
      go (m ∷ []) g = absurd (g.2)
      go (m ∷ n ∷ []) g = absurd (g.2.2)
      go (m ∷ n ∷ o ∷ []) g = v _ (u o g.2.2.0)
      go (m ∷ n ∷ o ∷ q ∷ ms) g = absurd (g.2.2.2)

pub xml-more : (given : Args) (f x r y : Bor Held) (rest more last end : Bor Args) (t : NormalType) → given ≡ args.More f rest → rest.now ≡ args.More x more → more.now ≡ args.More r last → last.now ≡ args.More y end → t ≡ unit →
    (ns : List Normal) → Given (args_of given) ns → Holds (held.Form (normal.Type t)) (xml_of ns)
xml-more given f x r y rest more last end t i j k l e ns g = go ns (subst (λ z. Given (f.now ∷ x.now ∷ r.now ∷ args_of z) ns) l (subst (λ z. Given (f.now ∷ x.now ∷ args_of z) ns) k
    (subst (λ z. Given (f.now ∷ args_of z) ns) j (subst (λ z. Given (args_of z) ns) i g)))) where
      go : (ns : List Normal) → Given (f.now ∷ x.now ∷ r.now ∷ y.now ∷ args_of end.now) ns → Holds (held.Form (normal.Type t)) (xml_of ns)
      go [] g = absurd g
      go (m ∷ []) g = absurd (g.2)
      go (m ∷ n ∷ []) g = absurd (g.2.2)
      go (m ∷ n ∷ o ∷ []) g = absurd (g.2.2.2)
      go (m ∷ n ∷ o ∷ q ∷ ms) g = unit-holds t e
