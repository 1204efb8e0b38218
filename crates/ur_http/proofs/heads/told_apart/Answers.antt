use Rattle.std.proofs.Common.{◌≡◌, true, false, sym, arith, codes}
use Rattle.std.specs.Str.{bytes_eq}
use Rattle.ur_http.proofs.Methods.{is_get, is_head, is_post, is_other}
use Rattle.ur_http.proofs.heads.told_apart.Goals as goal

pub returns-then-eq : goal.returns-then-eq
returns-then-eq c =
    let get : bytes_eq c.args.method.now (codes "GET") ≡ true = grind arith in
    sym (is_get c.args.method.now get)

pub returns-then-eq-2 : goal.returns-then-eq-2
returns-then-eq-2 c =
    let get : bytes_eq c.args.method.now (codes "GET") ≡ false = grind arith in
    let head : bytes_eq c.args.method.now (codes "HEAD") ≡ true = grind arith in
    sym (is_head c.args.method.now get head)

pub returns-then-eq-3 : goal.returns-then-eq-3
returns-then-eq-3 c =
    let get : bytes_eq c.args.method.now (codes "GET") ≡ false = grind arith in
    let head : bytes_eq c.args.method.now (codes "HEAD") ≡ false = grind arith in
    let post : bytes_eq c.args.method.now (codes "POST") ≡ true = grind arith in
    sym (is_post c.args.method.now get head post)

pub returns : goal.returns
returns c =
    let get : bytes_eq c.args.method.now (codes "GET") ≡ false = grind arith in
    let head : bytes_eq c.args.method.now (codes "HEAD") ≡ false = grind arith in
    let post : bytes_eq c.args.method.now (codes "POST") ≡ false = grind arith in
    sym (is_other c.args.method.now get head post)
