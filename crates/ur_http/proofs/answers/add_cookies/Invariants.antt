use Rattle.std.proofs.Common.{◌≡◌, ◌++◌, take}
use Rattle.std.specs.List.{flat_map}
use Rattle.ur_http.specs.Answers.{set_cookie}
use Rattle.ur_http.proofs.answers.add_cookies.Given as goal

abbrev pub invariant-loop-name : goal.invariant-loop-name
invariant-loop-name l = l.bytes ≡ l.initial.bytes ++ flat_map set_cookie (take l.name-index l.cookies)
