use Rattle.std.proofs.Common.{length, sym, ap, ◌∙◌, subst}
use Rattle.vault.specs.Keys.{AreKeys}
use Rattle.vault.proofs.Calls.{has_words}
use Rattle.vault.proofs.Dealing.{deals_next, next_is, left_is, keys_push, length_push}
use Rattle.vault.proofs.vault.Vault.deal.Goals as goal

pub split_seat-requires : goal.split_seat-requires
split_seat-requires g c = let i = c.loop.invariant in
    (i.table ∙ sym c.self.view_is, has_words c.self.inside.table.shared.table_id c.self.invariant, deals_next _ c.args.places c.loop.counter c.loop.rest.me i.view c.loop-test.true)

pub loop-preserved : goal.loop-preserved
loop-preserved g c = let i = c.loop.invariant in let cut = c.split_seat.ensures in let badge = c.into_badge.ensures in let pushed = c.in_ok-push.ensures.items in record {
  count = ap length pushed ∙ length_push c.loop.keys.items c.into_badge.result c.loop.counter i.count;
  keys = subst (AreKeys c.args.self.now 0) (sym pushed) (keys_push c.args.self.now 0 c.loop.counter c.loop.keys.items c.into_badge.result i.keys i.count
      (badge.0 ∙ (cut.3 ∙ i.table)) (next_is c.loop.counter c.args.places c.loop.rest.me c.split_seat.result.me c.into_badge.result.views i.view cut.4 badge.2));
  view = left_is c.loop.counter c.args.places c.loop.rest.me c.split_seat.new.seat.me i.view cut.2;
  table = cut.0 ∙ i.table;
}
