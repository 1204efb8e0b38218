-- The chain back from a write to a route.
use Rattle.std.proofs.Common.{arith, ◌≡◌, ℕ, ◌+◌, ◌<◌, List, [], ◌∷◌, ◌++◌, Option, Some, None, Contains, refl, sym, ◌∙◌, subst, slice_get, reverse}
use Rattle.std.proofs.lemmas.List.{reverse-append}
use Rattle.std.proofs.lemmas.Option.{same_Some}
use Rattle.ur_sql.proofs.Members.{in_from_contains}
use Rattle.ur_terms.specs.declared.term.Function.{Function}
use Rattle.ur_terms.specs.Shape.{Deed, calls, deeds, WritesFrom, here, through}
use Rattle.ur_code.specs.declared.code.Code.{Code}
use Rattle.ur_effects.specs.declared.act.Write.{Write}
use Rattle.ur_effects.specs.declared.act.Write.TheVariants as write
use Rattle.ur_effects.specs.Acts.{write_deed, body_deeds, deeds_in}
use Rattle.ur_effects.specs.Writes.{IsWrite, a_change, a_number, a_cookie, GetWrites}
use Rattle.ur_effects.specs.Search.{Found, IsLed, AreLed, MakesWrite}

pub write_writes : (w : Write) → IsWrite (write_deed w)
write_writes write.Change = a_change
write_writes write.Number = a_number
write_writes write.Cookie = a_cookie

-- a body that holds a deed is that of a function that is there
pub function_there : (functions : List Function) (f : ℕ) (d : Deed) → Contains (body_deeds functions f) d
    → (function : Function) × (slice_get functions f ≡ Some function) × Contains (deeds function.body) d
function_there functions f d c = go (slice_get functions f) refl c
  where
    go : (o : Option Function) → slice_get functions f ≡ o → Contains (deeds_in o) d → (function : Function) × (slice_get functions f ≡ Some function) × Contains (deeds function.body) d
    go None e h = absurd (in_from_contains [] d h)
    go (Some function) e h = (function, e, h)

-- From the function at this place the functions behind it, last first, lead to the write; where no place is left, they
-- lead there from a route.
abbrev pub ChainBack : Code → List Found → Write → Option ℕ → List ℕ → Type 0
ChainBack code found w None back = GetWrites code (reverse back) (write_deed w)
ChainBack code found w (Some place) back =
    (e : Found) × (slice_get found place ≡ Some e) × WritesFrom code.functions (write_deed w) e.function (e.function ∷ reverse back)

pub back_start : (code : Code) (found : List Found) (w : Write) (place : ℕ) → MakesWrite code.functions (slice_get found place) w → ChainBack code found w (Some place) []
back_start code found w place m = go (slice_get found place) refl m
  where
    go : (o : Option Found) → slice_get found place ≡ o → MakesWrite code.functions o w → ChainBack code found w (Some place) []
    go None e h = absurd h
    go (Some x) e h = let f = function_there code.functions x.function (write_deed w) h in (x, e, here x.function f.0 f.1 f.2)

-- one function back
pub back_more : (code : Code) (found : List Found) (w : Write) (place : ℕ) (x : Found) (back : List ℕ) → AreLed code found → slice_get found place ≡ Some x
    → ChainBack code found w (Some place) back → ChainBack code found w x.caller (back ++ x.function ∷ [])
back_more code found w place x back led is b = go x.caller (led place x is)
  where
    same : b.0 ≡ x
    same = same_Some _ _ (sym b.1 ∙ is)

    leads : WritesFrom code.functions (write_deed w) x.function (x.function ∷ reverse back)
    leads = subst (λ (y : Found). WritesFrom code.functions (write_deed w) y.function (y.function ∷ reverse back)) same b.2

    turned : x.function ∷ reverse back ≡ reverse (back ++ x.function ∷ [])
    turned = sym (reverse-append back (x.function ∷ []))

    go : (c : Option ℕ) → IsLed code found place x c → ChainBack code found w c (back ++ x.function ∷ [])
    go None target = record {
      target = x.function;
      is_target = target;
      is_write = write_writes w;
      writes = subst (WritesFrom code.functions (write_deed w) x.function) turned leads;
    }
    go (Some p) h =
        let f = function_there code.functions h.1.0.function (calls x.function) h.1.2 in (
          h.1.0,
          h.1.1,
          subst (λ (xs : List ℕ). WritesFrom code.functions (write_deed w) h.1.0.function (h.1.0.function ∷ xs)) turned
              (through h.1.0.function x.function f.0 (x.function ∷ reverse back) f.1 f.2 leads),
        )

-- the number of places from this one back
abbrev pub places_left : Option ℕ → ℕ
places_left None = 0
places_left (Some place) = place + 1

pub fewer_left : (code : Code) (found : List Found) (place : ℕ) (x : Found) → AreLed code found → slice_get found place ≡ Some x → places_left x.caller < places_left (Some place)
fewer_left code found place x led is = go x.caller (led place x is)
  where
    go : (c : Option ℕ) → IsLed code found place x c → places_left c < place + 1
    go None h = omega arith
    go (Some p) h = omega (arith, h.0)
