-- `writing::put_body` meets its contract: three writes, one after the other. Assumes nothing.
use Rattle.stored.specs.Blocks.{put-body}
use Rattle.stored.proofs.writing.put_body.Goals as goal

pub returns : goal.returns
returns c =
    let w = c.copy-past in
    let h = c.put_head in
    put-body c.args.kind c.args.number c.args.content.now c.args.block.now h.new.block w.new.out c.clear.new.out
    c.used_in.result w.result c.requires.room c.requires.there c.used_in.ensures h.ensures w.ensures.holds w.ensures.ends c.clear.ensures
