-- What only private functions say. Assumes nothing.
pub mod Drawing
