use Rattle.std.proofs.Common.{◌≡◌, ◌++◌, map}
use Rattle.form_urlencoded.specs.Form.{raw_pairs}
use Rattle.form_urlencoded.specs.Parse.{raw_pairs_left}
use Rattle.ur_http.specs.Requests.{decoded}
use Rattle.ur_http.proofs.forms.form.Given as goal

abbrev pub invariant-loop-name : goal.invariant-loop-name
invariant-loop-name l = l.form ++ map decoded (raw_pairs_left l.name-iterator) ≡ map decoded (raw_pairs l.body)
