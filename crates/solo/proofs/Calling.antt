-- What the answers to the goals of `solo` cite.
pub use Rattle.solo.proofs.Called.{says_does, still}
pub use Rattle.solo.proofs.Chained.{call_says, ids_says}
pub use Rattle.solo.proofs.Changed.{register_says, unregister_says}
pub use Rattle.solo.proofs.EngineActs.{advance_says, none_busy, not_busy, start_says, step_says}
pub use Rattle.solo.proofs.Hand.{all_here, all_stay, all_there, either, either_way, first_small, in_domain, in_items, in_its_cell, in_room, lent, of_number, of_table, own_table, own_tallies}
pub use Rattle.solo.proofs.Jobs.{finish_says, lens_says, need_says, take_says}
pub use Rattle.solo.proofs.Kept.{by_calling, by_ids, by_register, by_unregister}
pub use Rattle.solo.proofs.Meeting.{Hand, did_it, hand_of, have_met, held, s'}
pub use Rattle.solo.proofs.Quiet.{enter_says, lock_says, look_says, member_says, number_says, poll_says}
pub use Rattle.solo.proofs.Tabled.{by_install, by_lease, by_lookup, by_remove, install_says, lease_says, lookup_says, read_rows, remove_says}
