-- What only the contracts of inner functions say. A reader of the promises may leave it out: every caller is proved to meet it.
pub mod Counted
pub mod Put
