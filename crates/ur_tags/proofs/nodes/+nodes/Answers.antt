-- A node is shown by its equation, and the pieces of an element and of a link one after the other.
use Rattle.std.proofs.Common.{◌≡◌, ◌++◌, codes, sym, ap, ◌∙◌}
use Rattle.ur_tags.specs.Paths.{path}
use Rattle.ur_tags.specs.Show.{attribute, tag_attributes, tag_word, element, link, submit, show_node, show_nodes}
use Rattle.ur_tags.proofs.Equations.{show_node-Element, show_node-Link, show_node-Submit}
use Rattle.ur_tags.proofs.Pieces.{written, around_written, void_is, around_is}
use Rattle.ur_tags.proofs.nodes.+nodes.Goals as goal

pub push_node-returns-in-Element : goal.push_node-returns-in-Element
push_node-returns-in-Element t c =
    let handlers = c.args.handlers.now in
    let shown : show_node handlers c.args.node.now ≡ element c.in-Element.tag (show_nodes handlers c.in-Element.inner) =
    ap (show_node handlers) c.in-Element.is ∙ show_node-Element handlers c.in-Element.tag c.in-Element.inner in
    rw shown c.push_element.ensures

pub push_node-returns-in-Link : goal.push_node-returns-in-Link
push_node-returns-in-Link t c =
    let handlers = c.args.handlers.now in
    let shown : show_node handlers c.args.node.now ≡ link (path handlers c.in-Link.call) (show_nodes handlers c.in-Link.inner) =
    ap (show_node handlers) c.in-Link.is ∙ show_node-Link handlers c.in-Link.call c.in-Link.inner in
    rw shown c.push_link.ensures

pub push_node-returns-in-Submit : goal.push_node-returns-in-Submit
push_node-returns-in-Submit t c =
    let handlers = c.args.handlers.now in
    let shown : show_node handlers c.args.node.now ≡ submit (path handlers c.in-Submit.call) c.in-Submit.label =
    ap (show_node handlers) c.in-Submit.is ∙ show_node-Submit handlers c.in-Submit.call c.in-Submit.label in
    rw shown c.push_submit.ensures

pub push_element-returns-then-is_void : goal.push_element-returns-then-is_void
push_element-returns-then-is_void t c =
    let out = c.args.out.now in
    let word = tag_word c.args.tag in
    let opened : c.push_open.new.out ≡ out ++ (codes "<" ++ word) = c.in_ok-push_open.ensures ∙ ap (λ w. out ++ (codes "<" ++ w)) c.tag_word.ensures in
    written out c.push_open.new.out c.extend_from_slice.new.self (codes "<" ++ word) (codes "/>") opened c.in_ok-extend_from_slice.ensures.ok
    ∙ ap (λ e. out ++ e) (void_is c.args.tag (show_nodes c.args.handlers.now c.args.inner.now) (sym c.is_void.ensures ∙ c.if-is_void.true))

pub push_element-returns : goal.push_element-returns
push_element-returns t c =
    let out = c.args.out.now in
    let tag = c.args.tag in
    let word = tag_word tag in
    let inner = show_nodes c.args.handlers.now c.args.inner.now in
    let opened : c.push_open.new.out ≡ out ++ (codes "<" ++ word) = c.in_ok-push_open.ensures ∙ ap (λ w. out ++ (codes "<" ++ w)) c.tag_word.ensures in
    let filled : c.push_nodes.new.out ≡ c.push.new.self ++ inner = c.in_ok-push_nodes.ensures ∙ ap (λ ns. c.push.new.self ++ show_nodes c.args.handlers.now ns) c.as_slice.ensures in
    let closed : c.push_close.new.out ≡ c.push_nodes.new.out ++ (codes "</" ++ word ++ codes ">") =
    c.in_ok-push_close.ensures ∙ ap (λ w. c.push_nodes.new.out ++ (codes "</" ++ w ++ codes ">")) c.tag_word-2.ensures in
    around_written out _ _ _ _ _ word (tag_attributes tag) inner opened c.in_ok-push_tag_attributes.ensures c.in_ok-push.ensures.ok filled closed
    ∙ ap (λ e. out ++ e) (around_is tag inner (sym c.is_void.ensures ∙ c.if-is_void.false))

pub push_link-returns : goal.push_link-returns
push_link-returns t c =
    let inner = show_nodes c.args.handlers.now c.args.inner.now in
    let filled : c.push_nodes.new.out ≡ c.push.new.self ++ inner = c.in_ok-push_nodes.ensures ∙ ap (λ ns. c.push.new.self ++ show_nodes c.args.handlers.now ns) c.as_slice.ensures in
    around_written c.args.out.now _ _ _ _ _ (codes "a") (attribute (codes "href") (path c.args.handlers.now c.args.call.now)) inner c.in_ok-push_open.ensures c.in_ok-push_path_attribute.ensures
    c.in_ok-push.ensures.ok filled c.in_ok-push_close.ensures
