-- The cookies of code are those of the source.
use Rattle.std.proofs.Common.{◌≡◌, ℕ, List, [], ◌∷◌, sym, ap, subst, ◌∙◌}
use Rattle.std.specs.Prelude.{map}
use Rattle.std.specs.List.{AllByRecursion}
use Rattle.std.proofs.lemmas.List.Elements.{All-from_recursion, recursion_from_All}
use Rattle.ur_values.specs.declared.schema.ColumnKind.{ColumnKind}
use Rattle.ur_tree.specs.App as source
use Rattle.ur_code.specs.declared.code.Cookie.{Cookie}
use Rattle.ur_code.specs.Fits.{IsBasicCookie}
use Rattle.ur_mono.specs.Mono.{cookie_of, CookiesStayBasic}

each_basic : (cs : List (List ℕ × ColumnKind)) → AllByRecursion source.IsBasicCookie cs → AllByRecursion IsBasicCookie (map cookie_of cs)
each_basic [] h = tt
each_basic (c ∷ cs) h = (h.0, each_basic cs h.1)

pub stay_basic : CookiesStayBasic
stay_basic app closed code is of h =
    let same : code.cookies ≡ map cookie_of app.cookies = of.cookies ∙ ap (map cookie_of) is.1.cookies in
    let basic : AllByRecursion IsBasicCookie (map cookie_of app.cookies) = each_basic app.cookies (recursion_from_All source.IsBasicCookie app.cookies h) in
    All-from_recursion IsBasicCookie code.cookies (subst (λ (cs : List Cookie). AllByRecursion IsBasicCookie cs) (sym same) basic)
