use Rattle.mls_wire.proofs.Chunks.{take-put_chunk}
use Rattle.mls_wire.proofs.reader.append_within.Goals as goal

pub returns-clause-bytes : goal.returns-clause-bytes
returns-clause-bytes c =
    take-put_chunk c.args.line.now c.args.chunk.now _ c.args.len _ _ c.requires c.min-count.ensures c.copy_from_slice.ensures.after
