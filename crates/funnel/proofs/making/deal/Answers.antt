use Rattle.std.proofs.Common.{rules, ◌≡◌, ap, refl, arith}
use Rattle.funnel.specs.Tree.{word_of}
use Rattle.funnel.proofs.Seating.{some_words}
use Rattle.funnel.proofs.Shaping.{least_some}
use Rattle.funnel.proofs.making.deal.Goals as goal

pub deal-dealt-requires : goal.deal-dealt-requires
deal-dealt-requires g c =
    let wide : c.deref.result.now.shared.table_id.words ≡ word_of c.args.shape.nodes = search rules in
    let role = ap (λ m. m.0.role) c.requires.next.me in
    (omega arith, (record { seated = search rules; some = some_words _ _ wide (least_some _ _ c.requires.tree.0.least) }, (rw role refl, tt)))
