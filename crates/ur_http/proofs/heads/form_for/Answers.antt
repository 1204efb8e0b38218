use Rattle.std.proofs.Common.{◌∙◌, sym}
use Rattle.ur_http.specs.Requests.{form_for}
use Rattle.ur_http.proofs.Methods.{not_post}
use Rattle.ur_http.proofs.heads.form_for.Goals as goal

pub returns-in-Post : goal.returns-in-Post
unfolding form_for
returns-in-Post c = rw c.in-Post.is c.form.ensures

pub returns-in_default : goal.returns-in_default
returns-in_default c = c.new.ensures ∙ sym (not_post c.args.method c.args.body.now c.in_default.not-Post)
