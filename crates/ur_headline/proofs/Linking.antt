-- The links of a source's pages.
use Rattle.std.proofs.Common.{length, sym, subst}
use Rattle.std.specs.List.{AllZip}
use Rattle.ur_values.specs.declared.types.ValueType.TheVariants as ty
use Rattle.ur_values.specs.declared.value.Value.{Value}
use Rattle.ur_values.specs.declared.value.Value.TheVariants as v
use Rattle.ur_values.specs.Store.{FitsSchema}
use Rattle.ur_terms.specs.State.{State, Done}
use Rattle.ur_terms.specs.Sound.{NumbersLast}
use Rattle.ur_tags.specs.Paths.{RoutesBack}
use Rattle.ur_tags.proofs.LeadBack.{lead_back}
use Rattle.ur_code.specs.declared.code.Code.{Code}
use Rattle.ur_code.specs.RouteTypes.{IsRequestOf}
use Rattle.ur_code.specs.Links.{HasOwnCalls}
use Rattle.ur_code.specs.Sound.{FitsState, FitsCookie, IsOf, IsSound}
use Rattle.ur_code.proofs.Unstuck.{never_stuck}
use Rattle.ur_tree.specs.declared.typed.Typed.{Typed}
use Rattle.ur_headline.specs.Source.{LinksLead}
use Rattle.ur_headline.specs.Laws.{IsCodeOfSource}

own_calls : (code : Code) (x : Value) → IsOf code x ty.Page → HasOwnCalls code.handlers x
own_calls code (v.Int i) h = tt
own_calls code (v.Bool b) h = tt
own_calls code (v.Str s) h = tt
own_calls code (v.Row' _ fields) h = tt
own_calls code (v.Many' _ items) h = tt
own_calls code v.Absent h = tt
own_calls code (v.Present' _ x) h = tt
own_calls code (v.Tagged' c x) h = tt
own_calls code (v.Markup' m nodes) h = h.1

page_is_own : (code : Code) (page : Value) (after : State) → IsSound code (Done page after) → HasOwnCalls code.handlers page
page_is_own code page after h = own_calls code page h.0

pub links_lead : (app : Typed) (code : Code) → IsCodeOfSource app code → LinksLead app
links_lead app code is = record {
  own = λ call s after page request fits means. (
      let asks = subst (λ hs. IsRequestOf hs call) (sym is.handlers) request in
      let state : FitsState code s = record {
        store = subst (λ z. FitsSchema z s.store) (sym is.schema) fits.store;
        numbers = subst (λ z. NumbersLast (length z.sequences) s.units s.store) (sym is.schema) fits.numbers;
        carried = subst (AllZip FitsCookie s.carried) (sym is.cookies) fits.carries;
      } in
      subst (λ hs. HasOwnCalls hs page) is.handlers
      (page_is_own code page after (subst (IsSound code) (is.meaning.one_outcome call s (Done page after) means) (never_stuck code is.fits call s asks state))));
  back = subst RoutesBack is.handlers (lead_back code.handlers is.routes);
}
