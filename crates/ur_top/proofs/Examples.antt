-- The requests of a seed.
use Rattle.std.proofs.Common.{◌≡◌, refl, [], ◌∷◌}
use Rattle.ur_top.specs.Requests.{requests, list_request, add_request, drop_request}

first : requests 8 1 ≡ drop_request 26 ∷ list_request 2 ∷ list_request 3 ∷ list_request 1 ∷ list_request 0 ∷ list_request 1 ∷ list_request 3 ∷ add_request 3 39 ∷ []
first = refl
