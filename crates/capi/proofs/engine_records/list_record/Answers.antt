-- `engine_records::list_record` meets its contract. Assumes nothing.
use Rattle.capi.proofs.RecordLaws.{list_record_lem}
use Rattle.capi.proofs.engine_records.list_record.Goals as goal

pub returns : goal.returns
returns c = list_record_lem c.args.k _ c.args.refusal c.into.result c.into-2.result c.into-3.result c.into-4.result c.well_formed.1.0.1.1.0.1.0.1 c.into.ensures c.into-2.ensures c.into-3.ensures c.into-4.ensures
