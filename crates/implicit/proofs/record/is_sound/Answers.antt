-- `implicit::record::is_sound` meets its contract. Assumes nothing.
use Rattle.implicit.proofs.RecordLaws.{sound_record_as}
use Rattle.implicit.proofs.record.is_sound.Goals as goal

pub returns : goal.returns
returns c =
    sound_record_as _ _ _ _ _ _ _ _ c.is_legal_chosen.ensures c.has_sound_counts.ensures c.has_sound_ring.ensures
    c.has_sound_use.ensures c.is_sound_last.ensures c.is_sound_last-2.ensures
