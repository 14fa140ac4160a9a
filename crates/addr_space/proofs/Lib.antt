pub mod AllChunks
