-- `implicit::record::is_sound_last` meets its contract. Assumes nothing.
use Rattle.implicit.proofs.RecordLaws.{sound_last_as}
use Rattle.implicit.proofs.record.is_sound_last.Goals as goal

pub returns : goal.returns
returns c =
    sound_last_as _ _ _ _ _ c.is_legal_kept.ensures c.is_legal_kept-2.ensures c.is_legal_kept-3.ensures c.is_legal_kept-4.ensures
