use Rattle.std.proofs.Common.{sym, ◌∙◌}
use Rattle.ur_serve.proofs.Remembered.{renewed_page, renewed_post, renewed_put, put_as}
use Rattle.ur_serve.specs.Replies.{is_post}
use Rattle.ur_serve.proofs.remembering.renew.Goals as goal

pub returns-then-is_post : goal.returns-then-is_post
returns-then-is_post c =
    renewed_page c.args.cache.now.masks c.args.request.now c.args.turn.now c.in-Page.page _ c.args.asks c.args.pages.now.list c.drop_changed.new.pages.list c.in-Page.is
    (renewed_post c.args.cache.now.masks c.args.request.now.path c.in-Page.page (is_post c.args.request.now.method) c.args.asks c.args.pages.now.list
    c.drop_changed.new.pages.list (sym c.is_post.ensures ∙ c.if-is_post.true) c.drop_changed.ensures)

pub returns-else-is_post : goal.returns-else-is_post
returns-else-is_post c =
    renewed_page c.args.cache.now.masks c.args.request.now c.args.turn.now c.in-Page.page _ c.args.asks c.args.pages.now.list c.remember.new.pages.list c.in-Page.is
    (renewed_put c.args.cache.now.masks c.args.request.now.path c.in-Page.page (is_post c.args.request.now.method) c.args.asks c.args.pages.now.list
    c.remember.new.pages.list (sym c.is_post.ensures ∙ c.if-is_post.false)
    (put_as c.args.request.now.path c.as_slice.result.now c.in-Page.page c.as_slice-else-is_post.result.now c.args.asks c.args.pages.now.list c.remember.new.pages.list
    c.as_slice.ensures c.as_slice-else-is_post.ensures c.remember.ensures))
