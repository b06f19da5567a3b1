-- Both members are found done, and each processor catches up with its own.
use Rattle.std.proofs.Common.{◌≡◌, ◌<◌, length, true, sym, ap, ◌∙◌, subst}
use Rattle.std.specs.List.{list_all}
use Rattle.sections.specs.Views.{CookieView}
use Rattle.sections.specs.Calls.{AllClosed}
use Rattle.sections.specs.Sets.{cookies_of, is_found}
use Rattle.steps.proofs.Members.{within, same_cookie, found_at}
use Rattle.steps.proofs.sets.take_after_both.Goals as goal

pub returns-clause-web : goal.returns-clause-web
returns-clause-web c = λ taken.
    let was = c.args.set.now in
    let now = c.poll_member-2.new.self in
    let same : cookies_of now ≡ cookies_of was = c.poll_member-2.ensures.polls.cookies ∙ c.poll_member.ensures.polls.cookies in
    let lt : 0 < length (cookies_of was) = c.requires.web.0 in
    let all : true ≡ list_all is_found now = c.if-not-done.ensures.found in
    let here : 0 < length (cookies_of now) = subst (λ l. 0 < length l) (sym same) lt in
    let closed = c.catch_up.ensures.catches.closed (found_at 0 now all (within 0 now here)) in
    subst (λ (k : CookieView). AllClosed k.seen c.catch_up.new.cpu.cpu.seen) (same_cookie 0 now was same lt) closed

pub returns-clause-db : goal.returns-clause-db
returns-clause-db c = λ taken.
    let was = c.args.set.now in
    let now = c.catch_up.new.self in
    let same : cookies_of now ≡ cookies_of was = ap cookies_of c.catch_up.ensures.set ∙ (c.poll_member-2.ensures.polls.cookies ∙ c.poll_member.ensures.polls.cookies) in
    let lt : 1 < length (cookies_of was) = c.requires.db.0 in
    let all : true ≡ list_all is_found now = c.if-not-done.ensures.found ∙ sym (ap (list_all is_found) c.catch_up.ensures.set) in
    let here : 1 < length (cookies_of now) = subst (λ l. 1 < length l) (sym same) lt in
    let closed = c.catch_up-2.ensures.catches.closed (found_at 1 now all (within 1 now here)) in
    subst (λ (k : CookieView). AllClosed k.seen c.catch_up-2.new.cpu.cpu.seen) (same_cookie 1 now was same lt) closed
