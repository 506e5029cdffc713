-- `write_head` writes the words of the head, one after the other.
-- Assumes nothing.
use Rattle.opening_sections.proofs.Stand.{head_stored}
use Rattle.opening_sections.proofs.write_head.Goals as goal

pub returns : goal.returns
returns c =
    let args = c.args in
    head_stored args.mem.now _ _ args.used args.counts.vertices args.counts.roads args.counts.parts args.start c.put_words.ensures c.clear.ensures
